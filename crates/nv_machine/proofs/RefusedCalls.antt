-- A step after which its call is not to be answered leaves the book and all cells.
use Rattle.std.proofs.Common.{Bool, List, Option, Some, length, refl, subst, true, ℕ, ◌≡◌}
use Rattle.std.specs.Prelude.{Err, Ok, Result, ◌%◌}
use Rattle.nv_base.specs.declared.fault.Fault.{Fault}
use Rattle.nv_base.specs.declared.geometry.GeometryNumbers.{GeometryNumbers}
use Rattle.nv_book.specs.Book.{after_unpin_snapshot}
use Rattle.nv_book.specs.declared.record.Record.{Record}
use Rattle.nv_calls.specs.declared.answer.Answer.{Answer}
use Rattle.nv_machine.specs.Hands.{HandOf, is_going, is_going_on}
use Rattle.nv_machine.specs.Kept.{IsKept, Knows, KnowsOf}
use Rattle.nv_machine.specs.Refusing.{GoesOn, IsUnanswered, LeavesBooks, SameBooks}
use Rattle.nv_machine.specs.SnapshotOrCleaner.{shown_by}
use Rattle.nv_machine.specs.Starts.{IsStart}
use Rattle.nv_machine.specs.Step.{after, kind_turn, turn}
use Rattle.nv_machine.specs.World.{Answers, Append, ReturnNumber, Close, Draining, Drains, Drop, Ending, Ends, Enter, Event, HandState, LockPicked, Make, Moves, Next, Number, Open, Pick, Pin, Publish, Refuses, Release, Retire, Running, Shared, Show, SnapshotOrCleanerStep, SnapshotOrCleaner, Turn, Unpin, Waits, World, actor_at, with_book, Cleans, Compact, Fresh, PlanCleaning, LockCleaned, Unlink}
use Rattle.nv_machine.proofs.EveryWorld.{all_numbers, reached}
use Rattle.nv_machine.proofs.StepWork.{by_back, by_number, work}
use Rattle.nv_machine.proofs.WorkKeeps.{AfterTurn, turn_keeps}
use Rattle.nv_machine.proofs.StepWays.{After, EndsBy, Going, Telling, any_ends}
use Rattle.nv_machine.proofs.StepWalk.{walk_of}
use Rattle.nv_machine.proofs.SnapshotOrCleanerWalk.{StepWaysOf, step_walk_by}
use Rattle.nv_clean.specs.declared.cleaned.Cleaned.{Cleaned}

-- what leaves them whatever becomes of the call
abbrev Left : Next → Shared → Shared → HandState → Type 0
Left k s t h = SameBooks k s t

left_by : (k : Next) (s : Shared) (t : Turn) → AfterTurn (Left k s) t → LeavesBooks k s t
left_by k s (Moves t h q) same = λ out. same
left_by k s Waits same = tt
left_by k s (Ends (Ok found) t h) same = tt
left_by k s (Ends (Err fault) t h) same = same

answered : {claim : Type 0} (e : Ending) → e ≡ Answers → IsUnanswered e → claim
answered Answers is out = absurd out
answered other is out = cc

-- ---- what it leaves that is refused or moves on

abbrev LeftGoes : Next → Shared → Going
LeftGoes k s t h q = IsUnanswered q.ending → SameBooks k s t

abbrev told_left : Next → Shared → Shared → Result Answer Fault → Type 0
told_left k s t (Ok found) = Unit {0}
told_left k s t (Err fault) = SameBooks k s t

abbrev LeftTold : Next → Shared → Telling
LeftTold k s x t h = told_left k s t x

leaves : (k : Next) (s : Shared) (t : Turn) → After (LeftGoes k s) (LeftTold k s) t → LeavesBooks k s t
leaves k s (Moves t h q) on = on
leaves k s Waits on = tt
leaves k s (Ends (Ok found) t h) on = tt
leaves k s (Ends (Err fault) t h) on = on

module _ (k : Next) (s : Shared) where
  refused_left : {slots : List ℕ} {h : HandState} {r : Running} {fault : Fault} → SameBooks k s s
      → EndsBy (LeftGoes k s) (LeftTold k s) slots s h r (Refuses fault)
  refused_left same =
      any_ends (record { last = λ n is out. same; told = same; again = λ n over some out. absurd out; picks = λ d left drains some out. absurd out })

  -- after a release the call is one that drains
  drained_left : {slots : List ℕ} {t : Shared} {h : HandState} {r : Running} {d : Draining}
      → EndsBy (LeftGoes k s) (LeftTold k s) slots t h r (Drains d)
  drained_left =
      any_ends (record { last = λ n is out. absurd out; told = tt; again = λ n over some out. absurd out; picks = λ d left drains some out. absurd out })

  -- and after a cleaning it is one of a cleaner
  cleaned_left : {slots : List ℕ} {t : Shared} {h : HandState} {r : Running} {c : Cleaned}
      → EndsBy (LeftGoes k s) (LeftTold k s) slots t h r (Cleans c)
  cleaned_left =
      any_ends (record { last = λ n is out. absurd out; told = tt; again = λ n over some out. absurd out; picks = λ d left drains some out. absurd out })

module _ (actor : ℕ) (granted : Bool) (s : Shared) (h : HandState) (r : Running) where
  step_left : (step : SnapshotOrCleanerStep) → (is_going_on step ≡ true → r.ending ≡ Answers)
      → StepWaysOf (LeftGoes (SnapshotOrCleaner step) s) (LeftTold (SnapshotOrCleaner step) s) step actor granted s h r
  step_left Make going = (λ fault by. refused_left (SnapshotOrCleaner Make) s (refl, refl), λ clear. tt)
  step_left (Drop snapshot) going = (λ fault by. refused_left (SnapshotOrCleaner (Drop snapshot)) s (refl, refl), λ clear. tt)
  step_left (Pin snapshot) going =
      (λ none. refused_left (SnapshotOrCleaner (Pin snapshot)) s (refl, refl), λ clear. answered r.ending (going refl))
  step_left (Show snapshot showing) going = (λ lacks out. (refl, refl), λ clear out. (refl, refl))
  step_left (Unpin snapshot seen) going = λ clear. go r.ending where
    go : (e : Ending) → told_left (SnapshotOrCleaner (Unpin snapshot seen)) s (with_book (after_unpin_snapshot snapshot s.book) s)
        (shown_by e seen)
    go (Refuses fault) = (refl, refl)
    go other = tt
  step_left (Pick draining) going = (
    λ lacks first. refused_left (SnapshotOrCleaner (Pick draining)) s (refl, refl),
    λ empty. tt,
    λ picked rest free is. answered r.ending (going refl),
  )
  step_left (LockPicked draining picked) going = λ clear out. (refl, refl)
  step_left (Release draining picked) going = drained_left (SnapshotOrCleaner (Release draining picked)) s
  step_left (LockCleaned manner ino) going = λ clear out. (refl, refl)
  step_left (PlanCleaning manner slot) going = (
    λ none. refused_left (SnapshotOrCleaner (PlanCleaning manner slot)) s (refl, refl),
    λ some lacks. refused_left (SnapshotOrCleaner (PlanCleaning manner slot)) s (refl, refl),
    λ ino is some. record {
      fast = λ plain out. (refl, refl);
      some = λ n plain more out. (refl, refl);
      none = λ plain less. cleaned_left (SnapshotOrCleaner (PlanCleaning manner slot)) s;
    },
  )
  step_left (Fresh ino asked wanted) going = record {
    ready = λ q out. (refl, refl);
    more = λ n q m out. (refl, refl);
    short = λ n q m. any_ends (record {
      last = λ n is out. (refl, refl);
      told = (refl, refl);
      again = λ n over some out. absurd out;
      picks = λ d left drains some out. absurd out;
    });
  }
  step_left (Unlink ino) going = cleaned_left (SnapshotOrCleaner (Unlink ino)) s
  step_left (Compact ino) going = cleaned_left (SnapshotOrCleaner (Compact ino)) s

-- ---- every kind

module _ (block actor cpu : ℕ) (granted : Bool) (s : Shared) (h : HandState) (r : Running) where
  quiet_left : (k : Next) → SameBooks k s s → SameBooks k s (work k block actor s h r).shared
      → LeavesBooks k s (kind_turn k block actor granted s h r)
  quiet_left k stay same = left_by k s _ (turn_keeps (Left k s) k block actor granted s h r stay same)

  books_left : (k : Next) → Knows k block s cpu h r → GoesOn k r.ending → LeavesBooks k s (kind_turn k block actor granted s h r)
  books_left Number knows on = quiet_left Number (refl, refl) (by_number (λ (t : Shared) (g : HandState). SameBooks Number s t) s h (λ numbers ino. (refl, refl)))
  books_left Enter knows on =
      leaves Enter s _ (walk_of (LeftGoes Enter s) (LeftTold Enter s) block actor s h r Enter granted (
        λ free last. refused_left Enter s (refl, refl),
        λ clear lacks. refused_left Enter s (refl, refl),
        λ clear. answered r.ending knows.1,
      ) refl)
  books_left (Append place) knows on = answered r.ending knows.1
  books_left Open knows on = answered r.ending knows.1
  books_left (Publish place) knows on = answered r.ending knows.1
  books_left Close knows on = answered r.ending knows.1
  books_left (Retire place) knows on = answered r.ending knows.1
  books_left ReturnNumber knows on = quiet_left ReturnNumber (refl, refl) (by_back (λ (t : Shared) (g : HandState). SameBooks ReturnNumber s t) s h (λ numbers ino. (refl, refl)))
  books_left (SnapshotOrCleaner step) knows on =
      leaves (SnapshotOrCleaner step) s _ (step_walk_by (Unit {0}) (LeftGoes (SnapshotOrCleaner step) s) (LeftTold (SnapshotOrCleaner step) s)
      actor s h r step granted
      (λ blocked. tt) (step_left actor granted s h r step on))
  books_left other knows on = quiet_left other (refl, refl) (refl, refl)

-- ---- the law

pub refused_books : (w : World) (actor : ℕ) (granted : Bool) (r : Running) → IsKept w → (actor_at w actor).running ≡ Some r
    → GoesOn r.next r.ending
    → LeavesBooks r.next w.shared (turn w.numbers.block actor granted w.shared (actor_at w actor).hand r)
refused_books w actor granted r kept is on =
    books_left w.numbers.block actor (actor % length w.shared.lists) granted w.shared (actor_at w actor).hand r r.next
    (subst (λ (o : Option Running). KnowsOf o w.numbers.block w.shared (actor % length w.shared.lists) (actor_at w actor).hand) is
    (kept.each actor)) on

goes_on : (k : Next) (e : Ending) → (is_going k ≡ true → e ≡ Answers) → GoesOn k e
goes_on (SnapshotOrCleaner step) e going = going
goes_on other e going = tt

pub all_refused : (g : GeometryNumbers) (start : World) (records : List Record) (events : List Event) (actor : ℕ) (granted : Bool)
    (r : Running) → IsStart g start records
    → (actor_at (after start events) actor).running ≡ Some r
    → LeavesBooks r.next (after start events).shared
    (turn (after start events).numbers.block actor granted (after start events).shared
    (actor_at (after start events) actor).hand r)
all_refused g start records events actor granted r is_start is =
    let w : World = after start events in
    let own : HandOf g (actor_at w actor).hand (Some r) =
    subst (λ (o : Option Running). HandOf g (actor_at w actor).hand o) is ((all_numbers g start records events is_start).hands actor) in
    refused_books w actor granted r (reached g start records events is_start).kept is (goes_on r.next r.ending own.1)
