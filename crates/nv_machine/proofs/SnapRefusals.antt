-- A step that the list of snapshots may refuse waits, or it goes by its tests.
use Rattle.nv_book.specs.declared.record.Record.{Record}
use Rattle.std.proofs.Common.{◌≡◌, ◌⊎◌, ℕ, Bool, true, List, [], inl, inr, Option, Some, None, refl, subst, sym}
use Rattle.std.specs.Prelude.{Ok, Err}
use Rattle.nv_base.specs.declared.geometry.GeometryNumbers.{GeometryNumbers}
use Rattle.nv_calls.specs.Refusals.{Check as Tests}
use Rattle.nv_epoch.specs.SnapList.{pins_of}
use Rattle.nv_machine.specs.PlainRun.{plain_after, plain_of}
use Rattle.nv_machine.specs.Reading.{GoesBy, is_tested, plain_tests, test_there, tests_on}
use Rattle.nv_machine.specs.SnapshotOrCleaner.{drop_turn, if_free, make_tests, make_turn, pin_turn, snapshot_or_cleaner_turn}
use Rattle.nv_machine.specs.Starts.{IsStart}
use Rattle.nv_machine.specs.Step.{Step, after, kind_turn, step, turned}
use Rattle.nv_machine.specs.World.{Drop, Event, Go, HandState, Make, Next, Pin, Running, SnapshotOrCleanerStep, SnapshotOrCleaner, Turn, Waiting, World, actor_at, empty_hand}
use Rattle.nv_machine.proofs.OverEvents.{runs_inside}
use Rattle.nv_machine.proofs.SingleEvents.{goes}
use Rattle.nv_machine.proofs.FiledTurns.{refused_at_once}
use Rattle.nv_machine.proofs.SnapRuns.{all_bare, refusals_told}
use Rattle.nv_machine.proofs.SnapSteps.{IsBare}
use Rattle.nv_machine.specs.Hands.{HandOn}
use Rattle.std.proofs.lemmas.Bool.{false≢true}

module _ (a : ℕ) (granted : Bool) (w : World) (h : HandState) (r : Running) (empty : h ≡ empty_hand) where
  -- it waits, or goes by these tests
  abbrev Tested : Tests → Turn → Type 0
  Tested tests t = ((turned t a w).reply ≡ Waiting) ⊎ GoesBy tests (turned t a w).reply

  free_tested : (tests : Tests) (holder : Option ℕ) (t : Turn) → Tested tests t → Tested tests (if_free holder t)
  free_tested tests (Some other) t is = inl refl
  free_tested tests None t is = is

  make_tested : (tests : Tests) → r.slots ≡ [] → Tested tests (make_turn tests w.shared h r)
  make_tested (Err fault) none = subst (Tested (Err fault)) (sym (refused_at_once fault w.shared h r empty none)) (inr refl)
  make_tested (Ok passed) none = inr (λ fault e. cc)

  drop_tested : (snapshot : ℕ) (tests : Tests) → r.slots ≡ [] → Tested tests (drop_turn snapshot tests w.shared h r)
  drop_tested snapshot (Err fault) none = subst (Tested (Err fault)) (sym (refused_at_once fault w.shared h r empty none)) (inr refl)
  drop_tested snapshot (Ok passed) none = inr (λ fault e. cc)

  pin_tested : (snapshot : ℕ) (pins : Option ℕ) → r.slots ≡ [] → Tested (test_there pins) (pin_turn snapshot pins w.shared h r)
  pin_tested snapshot None none = subst (Tested (test_there None)) (sym (refused_at_once _ w.shared h r empty none)) (inr refl)
  pin_tested snapshot (Some pins) none = inr (λ fault e. cc)

  step_tested : (kind : SnapshotOrCleanerStep) → is_tested kind ≡ true → IsBare (SnapshotOrCleaner kind) h r
      → Tested (tests_on kind w.shared.book.snaps) (snapshot_or_cleaner_turn kind a granted w.shared h r)
  step_tested Make is bare =
      free_tested (make_tests w.shared.book.snaps) w.shared.holder _ (make_tested (make_tests w.shared.book.snaps) bare.1)
  step_tested (Drop snapshot) is bare =
      free_tested (tests_on (Drop snapshot) w.shared.book.snaps) w.shared.holder _
      (drop_tested snapshot (tests_on (Drop snapshot) w.shared.book.snaps) bare.1)
  step_tested (Pin snapshot) is bare =
      free_tested (tests_on (Pin snapshot) w.shared.book.snaps) w.shared.holder _
      (pin_tested snapshot (pins_of w.shared.book.snaps snapshot) bare.1)
  step_tested other is bare = cc

  kind_tested : (k : Next) (kind : SnapshotOrCleanerStep) → k ≡ SnapshotOrCleaner kind → is_tested kind ≡ true → IsBare k h r
      → Tested (tests_on kind w.shared.book.snaps) (kind_turn k w.numbers.block a granted w.shared h r)
  kind_tested k kind next is bare =
      subst (λ (n : Next). Tested (tests_on kind w.shared.book.snaps) (kind_turn n w.numbers.block a granted w.shared h r)) (sym next)
      (step_tested kind is (subst (λ (n : Next). IsBare n h r) next bare))

-- a step that is tested has an empty hand
tested_empty : (kind : SnapshotOrCleanerStep) (h : HandState) → is_tested kind ≡ true → HandOn kind h → h ≡ empty_hand
tested_empty Make h is empty = empty
tested_empty (Drop snapshot) h is empty = empty
tested_empty (Pin snapshot) h is empty = empty
tested_empty other h is empty = absurd (false≢true is)

pub replies_told : (g : GeometryNumbers) (start : World) (records : List Record) (events : List Event) (actor : ℕ)
    (granted : Bool) (r : Running) (kind : SnapshotOrCleanerStep)
    → IsStart g start records → (actor_at (after start events) actor).running ≡ Some r → r.next ≡ SnapshotOrCleaner kind
    → is_tested kind ≡ true
    → ((step (after start events) (Go actor granted)).reply ≡ Waiting)
    ⊎ GoesBy (plain_tests g.snaps kind (plain_after start events (plain_of start)))
    (step (after start events) (Go actor granted)).reply
replies_told g start records events actor granted r kind is_start is next tested =
    let w = after start events in
    let h = (actor_at w actor).hand in
    let bare = all_bare g start records events is_start actor r is in
    subst (λ (tests : Tests). ((step w (Go actor granted)).reply ≡ Waiting) ⊎ GoesBy tests (step w (Go actor granted)).reply)
    (refusals_told g start records events kind is_start)
    (subst (λ (made : Step). (made.reply ≡ Waiting) ⊎ GoesBy (tests_on kind w.shared.book.snaps) made.reply)
    (sym (goes w actor granted r (runs_inside w actor r is) is).is_turn)
    (kind_tested actor granted w h r (empty_of r.next bare next) r.next kind next tested bare)) where
      empty_of : (k : Next) → IsBare k (actor_at (after start events) actor).hand r → k ≡ SnapshotOrCleaner kind
          → (actor_at (after start events) actor).hand ≡ empty_hand
      empty_of k bare e =
          let both : IsBare (SnapshotOrCleaner kind) (actor_at (after start events) actor).hand r =
          subst (λ (n : Next). IsBare n (actor_at (after start events) actor).hand r) e bare in
          tested_empty kind (actor_at (after start events) actor).hand tested both.0
