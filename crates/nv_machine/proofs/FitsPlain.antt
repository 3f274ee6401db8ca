-- The plain world has the nodes of the settled logs, whatever events come.
use Rattle.nv_book.specs.declared.record.Record.{Record}
use Rattle.std.proofs.Common.{◌≡◌, ℕ, ◌<◌, ◌∙◌, Bool, true, List, [], ◌∷◌, Option, Some, ap, length, refl, sym}
use Rattle.std.proofs.Math.Path.{fun_ext}
use Rattle.std.proofs.lemmas.Bool.{true≢false}
use Rattle.nv_base.specs.declared.geometry.GeometryNumbers.{GeometryNumbers}
use Rattle.nv_base.specs.declared.numbers.Handle.{Handle}
use Rattle.nv_calls.specs.AllCalls.{effect}
use Rattle.nv_calls.specs.Plain.{PlainNode, node_in, nodes_after}
use Rattle.nv_machine.specs.Effects.{AreSound}
use Rattle.nv_machine.specs.FitsNow.{bytes_in}
use Rattle.nv_machine.specs.PlainRun.{Commits, PlainChange, Plain, actor_of, plain_change_of, done, keeps_nodes, plain_after, plain_of, plain_step, Maintains, after_step}
use Rattle.nv_machine.specs.Settled.{settled_nodes}
use Rattle.nv_machine.specs.Starts.{IsStart}
use Rattle.nv_machine.specs.Step.{after, step}
use Rattle.nv_machine.specs.World.{Event, Go, Make, Running, SnapshotOrCleanerStep, World, actor_at}
use Rattle.nv_machine.proofs.EveryWorld.{all_fit, all_known}
use Rattle.nv_machine.proofs.CommitNumbers.{events_counted}
use Rattle.nv_machine.proofs.CommitEffects.{point_effect}
use Rattle.nv_machine.proofs.OverEvents.{by_points}
use Rattle.nv_machine.proofs.FitsEvents.{IsKnown, fits_now, number_now}
use Rattle.nv_machine.proofs.LogsKeptRuns.{nodes_stay}

same_done : (d : PlainChange) (running : Option Running) (p : Plain) → keeps_nodes d ≡ true → (done d running p).nodes ≡ p.nodes
same_done Commits running p e = absurd (true≢false (sym e))
same_done (Maintains what) running p e = step_nodes what p where
  step_nodes : (what : SnapshotOrCleanerStep) (p : Plain) → (after_step what p).nodes ≡ p.nodes
  step_nodes Make p = refl
  step_nodes other p = refl
same_done other running p e = refl

module _ (g : GeometryNumbers) (w : World) (known : IsKnown g w) (p : Plain)
    (nodes : p.nodes ≡ settled_nodes w.shared) (number : w.shared.book.commit ≡ p.commit) where
  stays_plain : (e : Event) (running : Option Running) → keeps_nodes (plain_change_of w e) ≡ true
      → (done (plain_change_of w e) running p).nodes ≡ settled_nodes (step w e).world.shared
  stays_plain e running keeps =
      let k = known.reached in
      same_done (plain_change_of w e) running p keeps ∙ nodes ∙ sym (fun_ext (nodes_stay w e k.locks k.order k.kept k.apart keeps))

  commit_plain : (actor : ℕ) (granted : Bool) (r : Running) → actor < length w.actors → (actor_at w actor).running ≡ Some r
      → plain_change_of w (Go actor granted) ≡ Commits
      → (done Commits (Some r) p).nodes ≡ settled_nodes (step w (Go actor granted)).world.shared
  commit_plain actor granted r there is e =
      let k = known.reached in
      ap (λ (n : ℕ). nodes_after n (effect (node_in p.nodes) r.made r.call) p.nodes)
      (sym number ∙ sym (number_now g w known actor granted r is there e))
      ∙ ap (λ (f : Handle → Option PlainNode). nodes_after r.commit (effect (node_in f) r.made r.call) f) nodes
      ∙ sym (fun_ext (point_effect (bytes_in w.shared) w actor granted r k.locks k.order k.kept k.grown k.apart there is e
      (fits_now g w known actor granted r is there e)))

  event_plain : (e : Event) → (plain_step w e p).nodes ≡ settled_nodes (step w e).world.shared
  event_plain = by_points w (λ (e : Event). (plain_step w e p).nodes ≡ settled_nodes (step w e).world.shared)
      (λ actor granted r there is e. ap (λ (d : PlainChange). (done d (actor_at w actor).running p).nodes) e
      ∙ ap (λ (o : Option Running). (done Commits o p).nodes) is ∙ commit_plain actor granted r there is e)
      (λ e keeps. stays_plain e (actor_at w (actor_of e)).running keeps)

events_plain : (g : GeometryNumbers) (events : List Event) (w : World) (p : Plain) → ((before : List Event) → IsKnown g (after w before))
    → p.nodes ≡ settled_nodes w.shared → w.shared.book.commit ≡ p.commit
    → (plain_after w events p).nodes ≡ settled_nodes (after w events).shared
events_plain g [] w p known nodes number = nodes
events_plain g (e ∷ events) w p known nodes number =
    events_plain g events (step w e).world (plain_step w e p) (λ before. known (e ∷ before)) (event_plain g w (known []) p nodes number e)
    (events_counted (e ∷ []) w p number)

pub plain_nodes : (g : GeometryNumbers) (start : World) (records : List Record) (events : List Event) → IsStart g start records
    → (handle : Handle)
    → settled_nodes (after start events).shared handle ≡ (plain_after start events (plain_of start)).nodes handle
plain_nodes g start records events is_start handle =
    sym (ap (λ (f : Handle → Option PlainNode). f handle)
    (events_plain g events start (plain_of start) (all_known g start records is_start) refl refl))

-- and all settled logs are sound
pub all_sound : (g : GeometryNumbers) (start : World) (records : List Record) (events : List Event) → IsStart g start records
    → AreSound (after start events).shared
all_sound g start records events is_start = (all_fit g start records is_start events).sound
