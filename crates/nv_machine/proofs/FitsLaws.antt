-- The laws of calls between their checks and their commit points: they pass, and their plans fit.
use Rattle.nv_book.specs.declared.record.Record.{Record}
use Rattle.std.proofs.Common.{◌≡◌, ℕ, ◌<◌, Bool, true, List, Option, Some, length, subst}
use Rattle.nv_base.specs.declared.geometry.GeometryNumbers.{GeometryNumbers}
use Rattle.nv_base.specs.declared.numbers.Handle.{Handle}
use Rattle.nv_calls.specs.AllCalls.{effect, refusal}
use Rattle.nv_calls.specs.Plain.{node_in, nodes_after}
use Rattle.nv_calls.specs.Refusals.{passes}
use Rattle.nv_machine.specs.Effects.{HasPlanNow}
use Rattle.nv_machine.specs.FitsNow.{bytes_in, is_checked}
use Rattle.nv_machine.specs.PlainRun.{Commits, plain_change_of}
use Rattle.nv_machine.specs.Settled.{settled_nodes}
use Rattle.nv_machine.specs.Starts.{IsStart}
use Rattle.nv_machine.specs.Step.{after, step}
use Rattle.nv_machine.specs.World.{Append, Close, Enter, Event, Go, HandState, Next, Open, Publish, Ready, Running, Shared, TakeBlocks, TakeLogPages, World, actor_at}
use Rattle.nv_machine.proofs.EveryWorld.{all_fit, all_known}
use Rattle.nv_machine.proofs.CommitEffects.{point_effect}
use Rattle.nv_machine.proofs.FitsEvents.{fits_now, passes_now}
use Rattle.nv_machine.proofs.FitsStages.{FitsAt, FitsOf, Passed}

-- from its check to its commit point
checked_passed : (k : Next) (block : ℕ) (s : Shared) (h : HandState) (r : Running) → is_checked k ≡ true → FitsAt k block s h r
    → Passed block s r
checked_passed (TakeBlocks asked) block s h r e f = f.0
checked_passed (TakeLogPages asked) block s h r e f = f.0
checked_passed Ready block s h r e f = f.0
checked_passed Enter block s h r e f = f.0
checked_passed (Append place) block s h r e f = f.0
checked_passed Open block s h r e f = f.0
checked_passed (Publish place) block s h r e f = f.0
checked_passed Close block s h r e f = f.0
checked_passed other block s h r e f = cc

pub still_passes : (g : GeometryNumbers) (start : World) (records : List Record) (events : List Event) (actor : ℕ) (r : Running)
    → IsStart g start records
    → (actor_at (after start events) actor).running ≡ Some r → is_checked r.next ≡ true
    → Passed (after start events).numbers.block (after start events).shared r
still_passes g start records events actor r is_start is e =
    let w : World = after start events in
    checked_passed r.next w.numbers.block w.shared (actor_at w actor).hand r e
    (subst (λ (running : Option Running). FitsOf running w.numbers.block w.shared (actor_at w actor).hand) is
    ((all_fit g start records is_start events).each actor))

module _ (g : GeometryNumbers) (start : World) (records : List Record) (events : List Event) (actor : ℕ) (granted : Bool)
    (r : Running) (is_start : IsStart g start records) where
  abbrev w : World
  w = after start events

  module _ (there : actor < length w.actors) (is : (actor_at w actor).running ≡ Some r) (e : plain_change_of w (Go actor granted) ≡ Commits) where
    -- at a commit point the plan fits the effect of its call
    pub has_plan : HasPlanNow (bytes_in w.shared) w.numbers.block w.shared r
    has_plan = fits_now g w (all_known g start records is_start events) actor granted r is there e

    -- and the plain world does not refuse the call
    pub has_passed : refusal w.numbers.block (node_in (settled_nodes w.shared)) r.call ≡ passes
    has_passed =
        passes_now g w (all_known g start records is_start events) actor granted r is there e

    -- so it has this effect
    pub has_effect : (handle : Handle) → settled_nodes (step w (Go actor granted)).world.shared handle
        ≡ nodes_after r.commit (effect (node_in (settled_nodes w.shared)) r.made r.call) (settled_nodes w.shared) handle
    has_effect =
        let k = (all_known g start records is_start events).reached in
        point_effect (bytes_in w.shared) w actor granted r k.locks k.order k.kept k.grown k.apart there is e has_plan
