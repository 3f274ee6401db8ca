-- A call has as many steps left in any world of the machine that a world shows, so few enough in each.
use Rattle.std.proofs.Common.{◌≡◌, ◌∙◌, ℕ, ◌<◌, ◌≤◌, Bool, true, false, List, [], ◌∷◌, Option, Some, None, ap, arith, length, nat_lt, refl, subst, sym}
use Rattle.std.specs.Prelude.{slice_index_or}
use Rattle.std.proofs.lemmas.Bool.{ltb-false, ltb-true}
use Rattle.std.proofs.lemmas.List.{get_or_past}
use Rattle.nv_machine.proofs.MoveBounds.{moves_end, steps_few}
use Rattle.nv_machine.specs.Bound.{bound_at, bound_of, most_steps}
use Rattle.nv_machine.specs.World as machine
use Rattle.nv_machine.specs.World.{actor_at, idle}
use Rattle.nv_core.proofs.WorldSteps.{shows_none, shows_some}
use Rattle.nv_core.specs.Shown.{ShownCall, shown_by}
use Rattle.nv_core.specs.Worlds.{IsBounded, IsWorld, Shows, ShowsRunning, WorldState, most_goes, shown_call_of}
use Rattle.nv_core.specs.declared.reservation.Reservation.{Reservation}
use Rattle.nv_core.specs.declared.reservation.Reservation.TheVariants as reserved
use Rattle.nv_core.specs.declared.running.Running.{Running}
use Rattle.nv_core.specs.declared.world.Actor.{Actor}

-- what is told of a call doesn't count
told_same : (cpus : ℕ) (h : Reservation) (running : Running) (a b : ShownCall)
    → bound_of cpus (Some (shown_by h a running)) ≡ bound_of cpus (Some (shown_by h b running))
told_same cpus (reserved.Hand hand) running a b = refl
told_same cpus (reserved.Ready ready) running a b = refl
told_same cpus (reserved.Commit commit) running a b = refl

-- two calls that one call shows
running_same : (cpus : ℕ) (h : Reservation) (running : Option Running) (x y : Option machine.Running) → ShowsRunning h running x
    → ShowsRunning h running y → bound_of cpus x ≡ bound_of cpus y
running_same cpus h None x y one two = ap (bound_of cpus) (shows_none h x one ∙ sym (shows_none h y two))
running_same cpus h (Some running) x y one two =
    let r = shows_some h running x one in
    let q = shows_some h running y two in
    ap (bound_of cpus) r.1
    ∙ ap (λ (s : machine.Running). bound_of cpus (Some s)) (sym r.2.shown)
    ∙ told_same cpus h running (shown_call_of r.0) (shown_call_of q.0)
    ∙ ap (λ (s : machine.Running). bound_of cpus (Some s)) q.2.shown
    ∙ sym (ap (bound_of cpus) q.1)

-- one of some
pub one_of : (k : ℕ) (actors : List Actor) → k < length actors → Actor
one_of k [] lt = absurd (omega (arith, lt))
one_of k (actor ∷ actors) lt = actor

-- an actor that isn't there has no call
none_past : (w : WorldState) (m : machine.World) (actor : ℕ) → Shows w m → length w.actors ≤ actor
    → bound_of (length w.shared.lists.items) (actor_at m actor).running ≡ 0
none_past w m actor shows past =
    ap (λ (a : machine.Actor). bound_of (length w.shared.lists.items) a.running)
    (get_or_past m.actors actor idle (omega (arith, past, shows.count)))

-- by the code's free lists, which are as many
by_lists : (w : WorldState) (m : machine.World) (actor : ℕ) → Shows w m
    → bound_at m actor ≡ bound_of (length w.shared.lists.items) (actor_at m actor).running
by_lists w m actor shows =
    ap (λ (s : machine.Shared). bound_of (length s.lists) (actor_at m actor).running) (sym shows.shared)

pub bound_same : (w : WorldState) (m n : machine.World) (actor : ℕ) → Shows w m → Shows w n → bound_at m actor ≡ bound_at n actor
bound_same w m n actor one two = by_lists w m actor one ∙ go (nat_lt actor (length w.actors)) refl ∙ sym (by_lists w n actor two) where
  cpus : ℕ
  cpus = length w.shared.lists.items

  go : (b : Bool) → nat_lt actor (length w.actors) ≡ b → bound_of cpus (actor_at m actor).running ≡ bound_of cpus (actor_at n actor).running
  go true e =
      let lt = ltb-true actor (length w.actors) e in
      let d = one_of actor w.actors lt in
      let a = slice_index_or w.actors actor d in
      running_same cpus a.reserved a.running (actor_at m actor).running (actor_at n actor).running
      (one.each actor d lt).running (two.each actor d lt).running
  go false e =
      let past = ltb-false actor (length w.actors) e in
      none_past w m actor one past ∙ sym (none_past w n actor two past)

pub bounded : (w : WorldState) (m : machine.World) → IsWorld w → Shows w m → IsBounded m
bounded w m is shows actor grants =
    let few = steps_few w.shared.geometry.numbers is.1.start is.1.records is.1.events actor is.2.is_start in
    let reached = subst (λ (n : machine.World). bound_at n actor ≤ most_steps w.shared.geometry.numbers.cpus) (sym is.2.reached) few in
    let cpus = is.2.is_start.limits.cpus_fit in
    moves_end most_goes m actor grants (omega (arith, reached, bound_same w m is.0 actor shows is.2.shows, cpus))
