-- Whatever events come, the plain world has the epoch and the snapshots of the book, and refuses what
-- the machine refuses.
use Rattle.nv_book.specs.declared.record.Record.{Record}
use Rattle.std.proofs.Common.{map, ◌≡◌, ℕ, zero, suc, ◌∙◌, if◌then◌else◌, List, [], ◌∷◌, length, Option, Some, None, ap, refl}
use Rattle.std.specs.Prelude.{nat_le, Err}
use Rattle.nv_base.specs.declared.fault.Fault.TheVariants.{EpochLimit, TooManySnapshots}
use Rattle.nv_base.specs.declared.geometry.GeometryNumbers.{GeometryNumbers}
use Rattle.nv_base.specs.declared.limits.TheConstants.{NUMBER}
use Rattle.nv_base.specs.declared.numbers.Handle.{Handle}
use Rattle.nv_calls.specs.Refusals.{Check as Tests, passes}
use Rattle.nv_entry.specs.declared.node.NodeCopy.{NodeCopy}
use Rattle.nv_epoch.specs.SnapList.{Snapshots as Living, pins_of}
use Rattle.nv_machine.specs.PlainRun.{copy_in, Plain, plain_change_of, plain_after, plain_of, plain_step}
use Rattle.nv_machine.specs.Reading.{plain_tests, test_pins, test_there, tests_on}
use Rattle.nv_machine.specs.SnapshotOrCleaner.{drop_tests}
use Rattle.nv_machine.specs.Starts.{IsStart}
use Rattle.nv_machine.specs.Step.{after, step}
use Rattle.nv_epoch.specs.declared.snapshot.Snapshot.{Snapshot}
use Rattle.nv_machine.specs.World.{Shared, Drop, Event, Make, Pin, SnapshotOrCleanerStep, World}
use Rattle.nv_machine.proofs.EveryWorld.{all_numbers, reached}
use Rattle.nv_machine.proofs.SnapSteps.{AreBare, are_bare, event_snaps}
use Rattle.nv_machine.proofs.SnapshotCopies.{AreAlike, AreBefore, as_many, deed_alike, deed_before, deed_epoch, deed_most, same_pins}
use Rattle.nv_machine.proofs.StartRecords.{first_before}

pub all_bare : (g : GeometryNumbers) (start : World) (records : List Record) (events : List Event) → IsStart g start records
    → AreBare (after start events)
all_bare g start records events is_start =
    are_bare g (after start events) (reached g start records events is_start).locks (all_numbers g start records events is_start)

-- ---- in step

abbrev Any : ℕ → (Handle → Option NodeCopy) → Type 0
Any n nodes = Unit {0}

-- the plain world has the epoch and the snapshots of the book
pub record InStep (g : GeometryNumbers) (l : Living) (p : Plain) : Type 0 where
  pub epoch : l.epoch ≡ p.epoch
  pub alike : AreAlike Any l.living p.copies
  pub most : l.most ≡ g.snaps
  pub before : AreBefore l

event_in_step : (g : GeometryNumbers) (w : World) (e : Event) (p : Plain) → AreBare w → InStep g w.shared.book.snaps p
    → InStep g (step w e).world.shared.book.snaps (plain_step w e p)
event_in_step g w e p bare is =
    let l = w.shared.book.snaps in
    let d = plain_change_of w e in
    rw (event_snaps w e bare) (record {
      epoch = deed_epoch d _ l p is.epoch;
      alike = deed_alike Any d _ l p is.epoch (λ made. tt) is.alike;
      most = deed_most d l ∙ is.most;
      before = deed_before d l is.before;
    })

events_in_step : (g : GeometryNumbers) (events : List Event) (w : World) (p : Plain) → ((before : List Event) → AreBare (after w before))
    → InStep g w.shared.book.snaps p → InStep g (after w events).shared.book.snaps (plain_after w events p)
events_in_step g [] w p bare is = is
events_in_step g (e ∷ events) w p bare is =
    events_in_step g events (step w e).world (plain_step w e p) (λ before. bare (e ∷ before)) (event_in_step g w e p (bare []) is)

copied_any : (s : Shared) (living : List Snapshot) → AreAlike Any living (map (copy_in s) living)
copied_any s [] = tt
copied_any s (snapshot ∷ living) = (record { number = refl; pins = refl; nodes = tt }, copied_any s living)

pub in_step : (g : GeometryNumbers) (start : World) (records : List Record) (events : List Event) → IsStart g start records
    → InStep g (after start events).shared.book.snaps (plain_after start events (plain_of start))
in_step g start records events is_start =
    events_in_step g events start (plain_of start) (λ before. all_bare g start records before is_start)
    (record {
      epoch = refl;
      alike = copied_any start.shared start.shared.book.snaps.living;
      most = is_start.most;
      before =
          first_before g start records is_start;
    })

-- ---- refusals

same_drop : (pins : Option ℕ) → drop_tests pins ≡ test_pins pins
same_drop None = refl
same_drop (Some zero) = refl
same_drop (Some (suc pins)) = refl

abbrev made_tests : ℕ → ℕ → ℕ → Tests
made_tests epoch most living =
    if nat_le NUMBER epoch then Err EpochLimit else if nat_le most living then Err TooManySnapshots else passes

refusals_same : (g : GeometryNumbers) (l : Living) (p : Plain) (kind : SnapshotOrCleanerStep) → InStep g l p
    → tests_on kind l ≡ plain_tests g.snaps kind p
refusals_same g l p Make is =
    ap (λ (n : ℕ). made_tests n l.most (length l.living)) is.epoch
    ∙ ap (λ (n : ℕ). made_tests p.epoch n (length l.living)) is.most
    ∙ ap (λ (n : ℕ). made_tests p.epoch g.snaps n) (as_many Any l.living p.copies is.alike)
refusals_same g l p (Drop snapshot) is =
    same_drop (pins_of l snapshot) ∙ ap test_pins (same_pins Any l.living p.copies snapshot is.alike)
refusals_same g l p (Pin snapshot) is = ap test_there (same_pins Any l.living p.copies snapshot is.alike)
refusals_same g l p other is = refl

pub refusals_told : (g : GeometryNumbers) (start : World) (records : List Record) (events : List Event) (kind : SnapshotOrCleanerStep)
    → IsStart g start records
    → tests_on kind (after start events).shared.book.snaps
    ≡ plain_tests g.snaps kind (plain_after start events (plain_of start))
refusals_told g start records events kind is_start = refusals_same g _ _ kind (in_step g start records events is_start)
