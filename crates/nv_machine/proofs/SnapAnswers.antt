-- What makings and drops are answered, and a show whose memory was refused.
use Rattle.nv_book.specs.declared.record.Record.{Record}
use Rattle.std.proofs.Common.{◌≡◌, ◌⊎◌, ◌∙◌, ℕ, Bool, List, [], Option, Some, None, ap, inl, inr, refl, subst, sym}
use Rattle.std.specs.Prelude.{Ok, Err}
use Rattle.nv_base.specs.declared.fault.Fault.{Fault}
use Rattle.nv_base.specs.declared.geometry.GeometryNumbers.{GeometryNumbers}
use Rattle.nv_calls.specs.Refusals.{Check as Tests}
use Rattle.nv_calls.specs.declared.answer.Answer.{Answer}
use Rattle.nv_calls.specs.declared.answer.Answer.TheVariants as answers
use Rattle.nv_entry.specs.declared.tree.TreeNode.{TreeNode}
use Rattle.nv_epoch.specs.SnapList.{pins_of}
use Rattle.nv_machine.specs.PlainRun.{plain_after, plain_of}
use Rattle.nv_machine.specs.SnapshotOrCleaner.{drop_tests, drop_turn, if_free, make_tests, make_turn, shown_by, unpin_turn}
use Rattle.nv_machine.specs.Starts.{IsStart}
use Rattle.nv_machine.specs.Step.{Step, after, kind_turn, reply_of, step, turned}
use Rattle.nv_machine.specs.World.{Done, Drop, Ending, Event, Go, HandState, Make, Next, Refused, Refuses, Running, SnapshotOrCleanerStep, SnapshotOrCleaner, Turn, Unpin, Waiting, World, actor_at, empty_hand}
use Rattle.nv_machine.proofs.SingleEvents.{goes}
use Rattle.nv_machine.proofs.FiledTurns.{refused_at_once}
use Rattle.nv_machine.proofs.OverEvents.{runs_inside}
use Rattle.nv_machine.proofs.SnapRuns.{all_bare, in_step}
use Rattle.nv_machine.proofs.SnapSteps.{IsBare}

-- where it is answered, it is told this
abbrev Tells : Answer → Step → Type 0
Tells answer made = (told : Answer) → made.reply ≡ Done told → told ≡ answer

-- it waits, or is refused for this
abbrev IsRefusedFor : Fault → Step → Type 0
IsRefusedFor fault made = (made.reply ≡ Waiting) ⊎ (made.reply ≡ Refused fault)

module _ (a : ℕ) (w : World) (h : HandState) (r : Running) where
  free_tells : (answer : Answer) (holder : Option ℕ) (t : Turn) → Tells answer (turned t a w) → Tells answer (turned (if_free holder t) a w)
  free_tells answer (Some other) t is = λ told e. cc
  free_tells answer None t is = is

  make_tells : (tests : Tests) → h ≡ empty_hand → r.slots ≡ []
      → Tells (answers.Snapshot w.shared.book.snaps.epoch) (turned (make_turn tests w.shared h r) a w)
  make_tells (Err fault) empty none =
      subst (λ (t : Turn). Tells (answers.Snapshot w.shared.book.snaps.epoch) (turned t a w))
      (sym (refused_at_once fault w.shared h r empty none)) (λ told e. cc)
  make_tells (Ok passed) empty none = λ told e. cc

  drop_tells : (snapshot : ℕ) (tests : Tests) → h ≡ empty_hand → r.slots ≡ []
      → Tells answers.Nothing (turned (drop_turn snapshot tests w.shared h r) a w)
  drop_tells snapshot (Err fault) empty none =
      subst (λ (t : Turn). Tells answers.Nothing (turned t a w)) (sym (refused_at_once fault w.shared h r empty none)) (λ told e. cc)
  drop_tells snapshot (Ok passed) empty none = λ told e. cc

  unpin_ends : (snapshot : ℕ) (seen : List TreeNode) (fault : Fault) (holder : Option ℕ) → r.ending ≡ Refuses fault
      → IsRefusedFor fault (turned (if_free holder (unpin_turn snapshot seen w.shared h r)) a w)
  unpin_ends snapshot seen fault (Some other) is = inl refl
  unpin_ends snapshot seen fault None is = inr (ap (λ (e : Ending). reply_of (shown_by e seen)) is)

module _ (w : World) (actor : ℕ) (granted : Bool) (r : Running) (is : (actor_at w actor).running ≡ Some r) where
  abbrev h : HandState
  h = (actor_at w actor).hand

  -- what is told of the step before which the call is, is told of the event
  of_event : (P : Step → Type 0) (kind : SnapshotOrCleanerStep) → r.next ≡ SnapshotOrCleaner kind
      → P (turned (kind_turn (SnapshotOrCleaner kind) w.numbers.block actor granted w.shared h r) actor w) → P (step w (Go actor granted))
  of_event P kind next holds =
      subst P (sym (goes w actor granted r (runs_inside w actor r is) is).is_turn)
      (subst (λ (k : Next). P (turned (kind_turn k w.numbers.block actor granted w.shared h r) actor w)) (sym next) holds)

  pub unpin_refused : (snapshot : ℕ) (seen : List TreeNode) (fault : Fault) → r.next ≡ SnapshotOrCleaner (Unpin snapshot seen)
      → r.ending ≡ Refuses fault
      → ((step w (Go actor granted)).reply ≡ Waiting) ⊎ ((step w (Go actor granted)).reply ≡ Refused fault)
  unpin_refused snapshot seen fault next ending =
      of_event (IsRefusedFor fault) (Unpin snapshot seen) next (unpin_ends actor w h r snapshot seen fault w.shared.holder ending)

module _ (g : GeometryNumbers) (start : World) (records : List Record) (events : List Event) (actor : ℕ) (granted : Bool) (r : Running)
    (is : (actor_at (after start events) actor).running ≡ Some r) where
  abbrev w : World
  w = after start events

  bare : (kind : SnapshotOrCleanerStep) → IsStart g start records → r.next ≡ SnapshotOrCleaner kind
      → IsBare (SnapshotOrCleaner kind) (actor_at w actor).hand r
  bare kind is_start next =
      subst (λ (k : Next). IsBare k (actor_at w actor).hand r) next (all_bare g start records events is_start actor r is)

  pub made_told : (told : Answer) → IsStart g start records → r.next ≡ SnapshotOrCleaner Make → (step w (Go actor granted)).reply ≡ Done told
      → told ≡ answers.Snapshot (plain_after start events (plain_of start)).epoch
  made_told told is_start next reply =
      let b = bare Make is_start next in
      of_event w actor granted r is (Tells (answers.Snapshot w.shared.book.snaps.epoch)) Make next
      (free_tells actor w (actor_at w actor).hand r _ w.shared.holder _
      (make_tells actor w (actor_at w actor).hand r (make_tests w.shared.book.snaps) b.0 b.1)) told reply
      ∙ ap (λ (epoch : ℕ). answers.Snapshot epoch) (in_step g start records events is_start).epoch

  pub dropped_told : (snapshot : ℕ) (told : Answer) → IsStart g start records → r.next ≡ SnapshotOrCleaner (Drop snapshot)
      → (step w (Go actor granted)).reply ≡ Done told → told ≡ answers.Nothing
  dropped_told snapshot told is_start next reply =
      let b = bare (Drop snapshot) is_start next in
      of_event w actor granted r is (Tells answers.Nothing) (Drop snapshot) next
      (free_tells actor w (actor_at w actor).hand r _ w.shared.holder _
      (drop_tells actor w (actor_at w actor).hand r snapshot (drop_tests (pins_of w.shared.book.snaps snapshot)) b.0 b.1)) told reply
