-- No call has ever more than the most steps left, so none moves more often, one Go after another.
use Rattle.nv_book.specs.declared.record.Record.{Record}
use Rattle.std.proofs.Common.{Bool, List, None, Option, Some, [], ap, arith, false, if◌then◌else◌, length, map, nat_lt, refl, replicate, subst, suc, sym, true, zero, ℕ, ◌<◌, ◌==◌, ◌∷◌, ◌≡◌, ◌≢◌, ◌≤◌}
use Rattle.std.specs.List.{AllByRecursion}
use Rattle.std.proofs.lemmas.Bool.{eqb-false, eqb-true}
use Rattle.nv_base.specs.declared.geometry.GeometryNumbers.{GeometryNumbers}
use Rattle.nv_calls.specs.declared.call.Call.{Call}
use Rattle.nv_machine.specs.Bound.{IsNoStart, bound_at, bound_of, most_steps, moves, moves_by}
use Rattle.nv_machine.specs.Starts.{IsStart}
use Rattle.nv_machine.specs.Step.{after, replies, step}
use Rattle.nv_machine.specs.World.{Actor, Event, Go, Moved, Running, Start, World, actor_at}
use Rattle.nv_machine.proofs.EveryWorld.{all_numbers}
use Rattle.nv_machine.proofs.SingleEvents.{event_bound, event_cpus, events_bound, start_bound}
use Rattle.nv_machine.proofs.Lists.{self}
use Rattle.nv_machine.proofs.StepBounds.{steps_of_any}

-- ---- the bound of every call

-- a start of one's own: the call has the bound of a started one, or it is as it was
own_start : (b : Bool) (running : Option Running) (w : World) (actor : ℕ) (c : Call) → nat_lt actor (length w.actors) ≡ b
    → (actor_at w actor).running ≡ running → bound_at w actor ≤ most_steps (length w.shared.lists)
    → bound_at (step w (Start actor c)).world actor ≤ most_steps (length w.shared.lists)
own_start false running w actor c there is few = rw there few
own_start true (Some r) w actor c there is few = rw there (rw is few)
own_start true None w actor c there is few =
    let one = start_bound w actor c (rw there (rw is refl)) in omega (arith, one, steps_of_any c (length w.shared.lists))

event_few : (w : World) (actor : ℕ) (e : Event) → bound_at w actor ≤ most_steps (length w.shared.lists)
    → bound_at (step w e).world actor ≤ most_steps (length w.shared.lists)
event_few w actor (Go other granted) few = omega (arith, few, event_bound w actor (Go other granted) tt)
event_few w actor (Start other c) few = go (other == actor) refl where
  go : (b : Bool) → (other == actor) ≡ b → bound_at (step w (Start other c)).world actor ≤ most_steps (length w.shared.lists)
  go true e = subst (λ (n : ℕ). bound_at (step w (Start n c)).world actor ≤ most_steps (length w.shared.lists))
      (sym (eqb-true other actor e))
      (own_start (nat_lt actor (length w.actors)) (actor_at w actor).running w actor c refl refl few)
  go false e = omega (arith, few, event_bound w actor (Start other c) (eqb-false other actor e))

events_few : (events : List Event) (w : World) (actor : ℕ) → bound_at w actor ≤ most_steps (length w.shared.lists)
    → bound_at (after w events) actor ≤ most_steps (length w.shared.lists)
events_few [] w actor few = few
events_few (e ∷ events) w actor few =
    let cpus = event_cpus w e in
    subst (λ (n : ℕ). bound_at (after w (e ∷ events)) actor ≤ most_steps n) cpus
    (events_few events (step w e).world actor
    (subst (λ (n : ℕ). bound_at (step w e).world actor ≤ most_steps n) (sym cpus) (event_few w actor e few)))

pub steps_few : (g : GeometryNumbers) (start : World) (records : List Record) (events : List Event) (actor : ℕ) → IsStart g start records
    → bound_at (after start events) actor ≤ most_steps g.cpus
steps_few g start records events actor is_start =
    let cpus = (all_numbers g start records [] is_start).lists.cpus in
    subst (λ (n : ℕ). bound_at (after start events) actor ≤ most_steps n) cpus (events_few events start actor none) where
      none : bound_at start actor ≤ most_steps (length start.shared.lists)
      none = subst (λ (x : Actor). bound_of (length start.shared.lists) x.running ≤ most_steps (length start.shared.lists))
          (sym (is_start.idle_all actor)) (omega arith)

-- ---- one Go after another

abbrev pub gos : ℕ → List Bool → List Event
gos actor grants = map (Go actor) grants

no_starts : (actor : ℕ) (grants : List Bool) → AllByRecursion (IsNoStart actor) (gos actor grants)
no_starts actor [] = tt
no_starts actor (granted ∷ grants) = (tt, no_starts actor grants)

-- where each moves the call, it moves as often
all_move : (n : ℕ) (w : World) (actor : ℕ) (grants : List Bool) → replies w (gos actor grants) ≡ replicate n Moved
    → moves actor w (gos actor grants) ≡ n
all_move zero w actor [] e = refl
all_move zero w actor (granted ∷ grants) e = cc
all_move (suc n) w actor [] e = cc
all_move (suc n) w actor (granted ∷ grants) e =
    let first : (step w (Go actor granted)).reply ≡ Moved = cc in
    let rest : replies (step w (Go actor granted)).world (gos actor grants) ≡ replicate n Moved = cc in
    let more = all_move n (step w (Go actor granted)).world actor grants rest in
    let own = self actor in
    let one : (if actor == actor then moves_by (step w (Go actor granted)).reply else 0) ≡ 1 = rw own (ap moves_by first) in
    omega (arith, one, more)

pub moves_end : (n : ℕ) (w : World) (actor : ℕ) (grants : List Bool) → bound_at w actor < n
    → replies w (gos actor grants) ≢ replicate n Moved
moves_end n w actor grants few e =
    absurd (omega (arith, few, all_move n w actor grants e, events_bound (gos actor grants) w actor (no_starts actor grants)))

pub calls_stop : (g : GeometryNumbers) (start : World) (records : List Record) (events : List Event) (actor n : ℕ)
    (grants : List Bool) → IsStart g start records
    → most_steps g.cpus < n → replies (after start events) (gos actor grants) ≢ replicate n Moved
calls_stop g start records events actor n grants is_start many =
    let few = steps_few g start records events actor is_start in
    moves_end n (after start events) actor grants (omega (arith, few, many))
