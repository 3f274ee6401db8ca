-- What is filed is told by the record list, whatever events come.
use Rattle.std.proofs.Common.{◌≡◌, ℕ, Bool, true, false, if◌then◌else◌, List, Option, Some, None, arith, length, nat_lt, refl, subst, sym}
use Rattle.std.proofs.lemmas.Bool.{ltb-false}
use Rattle.nv_base.specs.declared.geometry.GeometryNumbers.{GeometryNumbers}
use Rattle.nv_book.specs.declared.record.Record.{Record}
use Rattle.nv_calls.specs.declared.call.Call.{Call}
use Rattle.nv_epoch.specs.SnapList.{ids}
use Rattle.nv_machine.specs.Hands.{AreNumbers, HandAt, HandOf, HandOn}
use Rattle.nv_machine.specs.Kept.{AreCleanable}
use Rattle.nv_machine.specs.Locks.{AreLocks, HasSlots, IsInside}
use Rattle.nv_machine.specs.Order.{CommitsIn, IsInOrder}
use Rattle.nv_machine.specs.PlainRun as plain
use Rattle.nv_machine.specs.Recorded.{after_deed, records_in, retired_in}
use Rattle.nv_machine.specs.Step.{go_step, start_step, step, turn, turned}
use Rattle.nv_machine.specs.World.{Ends, Event, Go, HandState, Moves, Next, Running, SnapshotOrCleanerStep, SnapshotOrCleaner, Start, Turn, Waits, World, actor_at}
use Rattle.nv_machine.proofs.OverEvents.{runs_inside}
use Rattle.nv_machine.proofs.FiledTurns.{CanList, Listed, OnListed, list_after, turn_listed, waits_listed}
use Rattle.nv_machine.specs.Sequence.{slots_on}

-- what is known of each world that events lead to
pub record IsListable (g : GeometryNumbers) (w : World) : Type 0 where
  pub locks : AreLocks w
  pub order : IsInOrder w
  pub numbers : AreNumbers g w
  pub cleanable : AreCleanable w

pub can_list : (g : GeometryNumbers) (w : World) (actor : ℕ) (r : Running) → IsListable g w → (actor_at w actor).running ≡ Some r
    → CanList r.next w.shared (actor_at w actor).hand r
can_list g w actor r known is = record {
  epoch = λ c. (own c).epoch;
  alone = λ step e. (at step e, slots step e);
} where
  h : HandState
  h = (actor_at w actor).hand

  own : CommitsIn w.shared (Some r)
  own = subst (λ (running : Option Running). CommitsIn w.shared running) is (known.order.each actor)

  at : (step : SnapshotOrCleanerStep) → r.next ≡ SnapshotOrCleaner step → HandOn step h
  at step e =
      let hand : HandOf g h (Some r) = subst (λ (o : Option Running). HandOf g h o) is (known.numbers.hands actor) in
      let here : HandAt g (SnapshotOrCleaner step) h r = subst (λ (k : Next). HandAt g k h r) e hand.0 in here

  slots : (step : SnapshotOrCleanerStep) → r.next ≡ SnapshotOrCleaner step → r.slots ≡ slots_on step
  slots step e =
      let has : HasSlots (length w.shared.owners) (Some r) =
      subst (λ (o : Option Running). HasSlots (length w.shared.owners) o) is (known.locks.each actor).slots in
      let inside : IsInside (SnapshotOrCleaner step) r = subst (λ (k : Next). IsInside k r) e has.1 in inside

-- ---- events

turned_listed : (k : Next) (rs : List Record) (t : Turn) (actor : ℕ) (w : World) (h : HandState) (r : Running) → Listed rs w.shared
    → (t ≡ Waits → list_after k w.shared h r Waits rs ≡ rs) → OnListed (list_after k w.shared h r t rs) t
    → Listed (list_after k w.shared h r t rs) (turned t actor w).world.shared
turned_listed k rs (Moves s g q) actor w h r is waits on = on
turned_listed k rs Waits actor w h r is waits on = subst (λ (l : List Record). Listed l w.shared) (sym (waits refl)) is
turned_listed k rs (Ends result s g) actor w h r is waits on = on

module _ (g : GeometryNumbers) (w : World) (known : IsListable g w) (rs : List Record) (is : Listed rs w.shared) where
  go_listed : (b : Bool) (running : Option Running) (actor : ℕ) (granted : Bool) → nat_lt actor (length w.actors) ≡ b
      → (actor_at w actor).running ≡ running
      → Listed (after_deed (if b then plain.plain_change_by running w actor granted else plain.Nothing) (ids w.shared.book.snaps)
      (retired_in w (Go actor granted) running rs)) (go_step b running actor granted w).world.shared
  go_listed false None actor granted there e = is
  go_listed false (Some r) actor granted there e = absurd (omega (arith, ltb-false actor (length w.actors) there, runs_inside w actor r e))
  go_listed true None actor granted there e = is
  go_listed true (Some r) actor granted there e =
      let h = (actor_at w actor).hand in
      turned_listed r.next rs (turn w.numbers.block actor granted w.shared h r) actor w h r is
      (waits_listed w.numbers.block actor granted rs w.shared h r is r.next)
      (turn_listed w.numbers.block actor granted rs w.shared h r is r.next (can_list g w actor r known e))

  start_listed : (b : Bool) (running : Option Running) (actor : ℕ) (c : Call)
      → Listed rs (start_step b running actor c w).world.shared
  start_listed false running actor c = is
  start_listed true (Some r) actor c = is
  start_listed true None actor c = is

  pub event_listed : (e : Event) → Listed (records_in w e rs) (step w e).world.shared
  event_listed (Start actor c) = start_listed (nat_lt actor (length w.actors)) (actor_at w actor).running actor c
  event_listed (Go actor granted) = go_listed (nat_lt actor (length w.actors)) (actor_at w actor).running actor granted refl refl
