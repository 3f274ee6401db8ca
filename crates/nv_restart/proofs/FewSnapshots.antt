-- There are never more living snapshots than the device allows, and the epoch stays in its range.
use Rattle.std.proofs.Common.{◌≡◌, ℕ, ◌+◌, ◌-◌, ◌<◌, ◌≤◌, ◌==◌, Bool, true, false, cond, filter, nat_le, not, List, [], ◌∷◌, arith, length, refl}
use Rattle.std.specs.Prelude.{Err, if◌then◌else◌}
use Rattle.std.proofs.lemmas.Bool.{leb-false}
use Rattle.std.proofs.lemmas.List.{length-append, length-map}
use Rattle.nv_base.specs.declared.fault.Fault.TheVariants.{EpochLimit, TooManySnapshots}
use Rattle.nv_base.specs.declared.geometry.GeometryNumbers.{GeometryNumbers}
use Rattle.nv_base.specs.declared.limits.TheConstants.{NUMBER}
use Rattle.nv_book.specs.declared.record.Record.{Record}
use Rattle.nv_calls.specs.Refusals.{Check, passes}
use Rattle.nv_epoch.specs.SnapList.{Snapshots, repinned}
use Rattle.nv_epoch.specs.declared.snapshot.Snapshot.{Snapshot}
use Rattle.nv_machine.specs.SnapshotOrCleaner.{make_tests}
use Rattle.nv_machine.specs.Starts.{IsStart}
use Rattle.nv_machine.specs.Step.{after, kind_turn, step}
use Rattle.nv_machine.specs.World.{Drop, Event, HandState, SnapshotOrCleaner, SnapshotOrCleanerStep, Make, Next, Number, Pin, ReturnNumber, Running, Shared, Unpin, World, actor_at}
use Rattle.nv_machine.proofs.EveryWorld.{reached}
use Rattle.nv_machine.proofs.OverEvents.{event_shared, events_by}
use Rattle.nv_machine.proofs.StepWays.{IsClearOn}
use Rattle.nv_machine.proofs.StepWork.{by_back, by_number, snapshot_or_cleaner_work}
use Rattle.nv_machine.proofs.WorkKeeps.{AfterTurn, snapshot_works, turn_keeps}
use Rattle.nv_machine.specs.Reached.{IsReached}
use Rattle.nv_restart.specs.Snapshots.{SnapshotsFit}

fewer : (p : Snapshot → Bool) (xs : List Snapshot) → length (filter p xs) ≤ length xs
fewer p [] = omega arith
fewer p (x ∷ xs) = go (p x) (fewer p xs) where
  go : (b : Bool) → length (filter p xs) ≤ length xs
      → length (cond b (x ∷ filter p xs) (filter p xs)) ≤ length (x ∷ xs)
  go true le = omega (arith, le)
  go false le = omega (arith, le)

abbrev tests : Bool → Bool → Check
tests a b = if a then Err EpochLimit else if b then Err TooManySnapshots else passes

may_make : (l : Snapshots) → make_tests l ≡ passes → (l.epoch < NUMBER) × (length l.living < l.most)
may_make l pass = go (nat_le NUMBER l.epoch) refl (nat_le l.most (length l.living)) refl pass where
  go : (a : Bool) → nat_le NUMBER l.epoch ≡ a → (b : Bool) → nat_le l.most (length l.living) ≡ b
      → tests a b ≡ passes → (l.epoch < NUMBER) × (length l.living < l.most)
  go true p b q e = cc
  go false p true q e = cc
  go false p false q e = (leb-false NUMBER l.epoch p, leb-false l.most (length l.living) q)

module _ (block a : ℕ) (granted : Bool) (s : Shared) (h : HandState) (r : Running)
    (fit : SnapshotsFit s.book.snaps) where
  abbrev P : Shared → HandState → Type 0
  P t x = SnapshotsFit t.book.snaps

  works : (step : SnapshotOrCleanerStep) → IsClearOn step s
      → SnapshotsFit (snapshot_or_cleaner_work step a s h).shared.book.snaps
  works Make clear =
      let may = may_make s.book.snaps clear.1 in
      let low = may.0 in
      let room = may.1 in
      record {
        few = omega (
          arith,
          room,
          length-append s.book.snaps.living
              ((record { number = s.book.snaps.epoch; pins = 0 }) ∷ []),
        );
        some = omega arith;
        most = omega (arith, low);
      }
  works (Drop snapshot) clear =
      let few = fit.few in
      record {
        few = omega (arith, few, fewer (λ t. not (t.number == snapshot)) s.book.snaps.living);
        some = fit.some;
        most = fit.most;
      }
  works (Pin snapshot) clear =
      let few = fit.few in
      record {
        few =
            omega (
              arith,
              few,
              length-map s.book.snaps.living (repinned snapshot (λ pins. pins + 1)),
            );
        some = fit.some;
        most = fit.most;
      }
  works (Unpin snapshot seen) clear =
      let few = fit.few in
      record {
        few =
            omega (
              arith,
              few,
              length-map s.book.snaps.living (repinned snapshot (λ pins. pins - 1)),
            );
        some = fit.some;
        most = fit.most;
      }
  works other clear = fit

  kind_fits : (k : Next) → AfterTurn P (kind_turn k block a granted s h r)
  kind_fits Number =
      turn_keeps P Number block a granted s h r fit (by_number P s h (λ numbers ino. fit))
  kind_fits ReturnNumber =
      turn_keeps P ReturnNumber block a granted s h r fit (by_back P s h (λ numbers ino. fit))
  kind_fits (SnapshotOrCleaner step) = snapshot_works P step a granted s h r fit (works step)
  kind_fits other = turn_keeps P other block a granted s h r fit fit

event_fits : (w : World) (e : Event) → IsReached w → SnapshotsFit w.shared.book.snaps
    → SnapshotsFit (step w e).world.shared.book.snaps
event_fits w e reached fit = event_shared (λ (t : Shared). SnapshotsFit t.book.snaps) w fit e
    (λ a granted r there is. kind_fits w.numbers.block a granted w.shared (actor_at w a).hand r fit
    r.next)

pub all_fit : (g : GeometryNumbers) (start : World) (records : List Record) (events : List Event)
    → IsStart g start records
    → SnapshotsFit start.shared.book.snaps → SnapshotsFit (after start events).shared.book.snaps
all_fit g start records events is fit =
    events_by IsReached (λ (w : World). SnapshotsFit w.shared.book.snaps) event_fits events start
    (λ before. reached g start records before is) fit
