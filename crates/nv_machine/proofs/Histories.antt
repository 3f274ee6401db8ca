-- The history is that of what happened: each commit with its actor, each making and each drop.
use Rattle.std.proofs.Common.{Bool, List, [], ap, false, if◌then◌else◌, length, nat_lt, refl, subst, sym, true, ℕ, ◌++◌, ◌∙◌, ◌∷◌, ◌≡◌, arith, ◌<◌}
use Rattle.std.specs.Prelude.{Err, Ok, Result}
use Rattle.std.proofs.lemmas.Bool.{false≢true, true≢false}
use Rattle.nv_base.specs.declared.fault.Fault.{Fault}
use Rattle.nv_base.specs.declared.geometry.GeometryNumbers.{GeometryNumbers}
use Rattle.nv_book.specs.Book.{after_enter}
use Rattle.nv_book.specs.History.{Account}
use Rattle.nv_book.specs.declared.event.Event.{Event as BookEvent}
use Rattle.nv_book.specs.declared.record.Record.{Record}
use Rattle.nv_calls.specs.declared.answer.Answer.{Answer}
use Rattle.nv_calls.specs.declared.answer.Answer.TheVariants as answers
use Rattle.nv_machine.specs.Happened.{added, all_noted, happened}
use Rattle.nv_machine.specs.Locks.{commits_at}
use Rattle.nv_machine.specs.PlainRun.{Commits, PlainChange, Nothing, Numbers, Maintains, actor_of, plain_change, plain_change_of, done_on, entered}
use Rattle.nv_machine.specs.Reads.{written_slots}
use Rattle.nv_machine.specs.Sequence.{appending, slots_on}
use Rattle.nv_machine.specs.SnapshotOrCleaner.{snapshot_or_cleaner_turn}
use Rattle.nv_machine.specs.Starts.{IsStart}
use Rattle.nv_machine.specs.Step.{after, kind_turn, step, turned}
use Rattle.nv_machine.specs.World.{ReturnNumber, Drop, Ending, Ends, Enter, Event, Go, HandState, Make, Moves, Next, Number, Publish, Running, Shared, SnapshotOrCleanerStep, SnapshotOrCleaner, Start, Turn, Unpin, Waits, World, actor_at, PlanCleaning, Pin, Pick}
use Rattle.nv_machine.proofs.CommitNumbers.{enters_appending}
use Rattle.nv_machine.proofs.LoopSteps.{goes_on}
use Rattle.nv_machine.proofs.OverEvents.{go_deed, start_deed, turn_at}
use Rattle.nv_machine.proofs.SnapRuns.{all_bare}
use Rattle.nv_machine.proofs.SnapSteps.{AreBare, IsBare}
use Rattle.nv_machine.proofs.SnapshotOrCleanerWalk.{is_denied, tells, told_on}
use Rattle.nv_machine.proofs.SnapshotOrCleanerAlone.{alone_walk}
use Rattle.nv_machine.proofs.StepWays.{After, Closes, by_last, is_last}
use Rattle.nv_machine.proofs.StepWalk.{walk}
use Rattle.nv_machine.proofs.StepWork.{by_back, by_number, snapshot_or_cleaner_work, work}
use Rattle.nv_machine.proofs.WorkKeeps.{AfterTurn, turn_keeps}
use Rattle.nv_machine.specs.Hands.{HandOn}

-- the history of what is shared, with what a deed adds
abbrev told_after : PlainChange → ℕ → Shared → Account
told_after d a s = all_noted s.book.history (added d a s)

abbrev Tells : PlainChange → ℕ → Shared → Shared → Type 0
Tells d a s t = t.book.history ≡ told_after d a s

-- a turn leaves the history with what its deed adds
abbrev OnHistory : PlainChange → ℕ → Shared → Turn → Type 0
OnHistory d a s (Moves t h r) = Tells d a s t
OnHistory d a s Waits = Tells d a s s
OnHistory d a s (Ends result t h) = Tells d a s t

-- one whose deed adds nothing
same_history : (d : PlainChange) (a : ℕ) (s : Shared) (t : Turn) → added d a s ≡ []
    → AfterTurn (λ (u : Shared) (h : HandState). u.book.history ≡ s.book.history) t → OnHistory d a s t
same_history d a s t none on = go t on where
  same : s.book.history ≡ told_after d a s
  same = sym (ap (all_noted s.book.history) none)

  go : (t : Turn) → AfterTurn (λ (u : Shared) (h : HandState). u.book.history ≡ s.book.history) t → OnHistory d a s t
  go (Moves u h r) on = on ∙ same
  go Waits on = same
  go (Ends result u h) on = on ∙ same

-- ---- the steps of calls on snapshots

abbrev OnStep : SnapshotOrCleanerStep → ℕ → Shared → Turn → Type 0
OnStep step a s t = OnHistory (done_on step t) a s t

module _ (a : ℕ) (granted : Bool) (s : Shared) (h : HandState) (r : Running) where
  work_told : (step : SnapshotOrCleanerStep) → Tells (Maintains step) a s (snapshot_or_cleaner_work step a s h).shared
  work_told Make = refl
  work_told (Drop snapshot) = refl
  work_told other = refl

  refused_told : (step : SnapshotOrCleanerStep) (fault : Fault) → is_denied step ≡ true → OnStep step a s (Ends (Err fault) s h)
  refused_told (Unpin snapshot seen) fault is = absurd (false≢true is)
  refused_told other fault is = refl

  answered_told : (step : SnapshotOrCleanerStep) → tells step ≡ true
      → OnStep step a s (Ends (told_on step s r) (snapshot_or_cleaner_work step a s h).shared (snapshot_or_cleaner_work step a s h).hand)
  answered_told Make is = refl
  answered_told (Drop snapshot) is = refl
  answered_told (Unpin snapshot seen) is = refl
  answered_told other is = absurd (false≢true is)

  -- a step that is refused and unlocks leaves it
  denied_told : (step : SnapshotOrCleanerStep) → 0 < length (slots_on step) → is_denied step ≡ true → Tells (Maintains step) a s s
  denied_told (PlanCleaning manner slot) some on = refl
  denied_told Make some on = absurd (omega (arith, some))
  denied_told (Drop snapshot) some on = absurd (omega (arith, some))
  denied_told (Pin snapshot) some on = absurd (omega (arith, some))
  denied_told (Pick draining) some on = absurd (omega (arith, some))
  denied_told other some on = absurd (false≢true on)

  step_told : (step : SnapshotOrCleanerStep) → HandOn step h → r.slots ≡ slots_on step
      → OnStep step a s (snapshot_or_cleaner_turn step a granted s h r)
  step_told step empty slots = alone_walk (OnStep step a s) step a granted s h r empty slots (record {
    waits = refl;
    refused = refused_told step;
    goes = λ on clear. work_told step;
    told = λ on clear. answered_told step on;
    denied = λ snapshot showing on. subst (λ (x : SnapshotOrCleanerStep). Tells (Maintains x) a s s) (sym on) refl;
    unlocks = λ fault on some. denied_told step some on;
    leads_on = λ next leads. work_told step;
    over = λ e ends. work_told step;
    none = λ draining on nothing.
        subst (λ (x : SnapshotOrCleanerStep). OnStep x a s (Ends (Ok (answers.Count draining.released)) s h)) (sym on) refl;
  })

-- ---- enter

abbrev if_in : Next → PlainChange
if_in k = if commits_at k then Numbers else Nothing

module _ (a : ℕ) (s : Shared) where
  abbrev Enters : Shared → HandState → Running → Type 0
  Enters t h q = Tells (if_in q.next) a s t

  abbrev IsSame : Result Answer Fault → Shared → HandState → Type 0
  IsSame result t h = t.book.history ≡ s.book.history

  on_entered : (turn : Turn) → After Enters IsSame turn → OnHistory (entered turn) a s turn
  on_entered (Moves t h q) on = on
  on_entered Waits on = refl
  on_entered (Ends result t h) on = on

  last_out : (k : Next) → is_last k ≡ true → Tells (if_in k) a s s
  last_out = by_last (λ (k : Next). Tells (if_in k) a s s) (λ place. refl) (λ cpu. refl) refl

  closes : (h : HandState) (r : Running) (e : Ending) → Closes Enters IsSame s h r e
  closes h r e = record { last = last_out; told = refl; again = λ n over some. refl; picks = λ d left drains some. refl }

  goes_in : (k : Next) → commits_at k ≡ true
      → (after_enter a s.book).history ≡ told_after (if_in k) a s
  goes_in k e = go (commits_at k) e where
    go : (b : Bool) → b ≡ true → (after_enter a s.book).history ≡ told_after (if b then Numbers else Nothing) a s
    go true e = refl
    go false e = cc

  enter_told : (block : ℕ) (granted : Bool) (h : HandState) (r : Running)
      → OnHistory (entered (kind_turn Enter block a granted s h r)) a s (kind_turn Enter block a granted s h r)
  enter_told block granted h r =
      on_entered (kind_turn Enter block a granted s h r) (walk Enters IsSame block a s h r Enter granted (record {
        stops = λ e by. closes h r e;
        goes = λ on clear. goes_in (appending 0 (written_slots r)) (enters_appending 0 (written_slots r));
        takes = λ on n next taking. absurd (false≢true on);
        over = λ on. absurd (false≢true on);
        short = λ on. absurd (false≢true on);
        told = λ on clear. absurd (true≢false (ap goes_on on));
      }) refl)

-- ---- every kind

publish_none : (b : Bool) (a : ℕ) (s : Shared) → added (if b then Nothing else Commits) a s ≡ []
publish_none true a s = refl
publish_none false a s = refl

module _ (block a : ℕ) (granted : Bool) (s : Shared) (h : HandState) (r : Running) where
  file_told : (k : Next) → (work k block a s h r).shared.book.history ≡ s.book.history
      → added (plain_change k (written_slots r) (kind_turn k block a granted s h r)) a s ≡ []
      → OnHistory (plain_change k (written_slots r) (kind_turn k block a granted s h r)) a s (kind_turn k block a granted s h r)
  file_told k same none =
      let t = kind_turn k block a granted s h r in
      same_history (plain_change k (written_slots r) t) a s t none
      (turn_keeps (λ (u : Shared) (x : HandState). u.book.history ≡ s.book.history) k block a granted s h r refl same)

  kind_told : (k : Next) → IsBare k h r
      → OnHistory (plain_change k (written_slots r) (kind_turn k block a granted s h r)) a s (kind_turn k block a granted s h r)
  kind_told Number bare = file_told Number
      (by_number (λ (u : Shared) (x : HandState). u.book.history ≡ s.book.history) s h (λ numbers ino. refl)) refl
  kind_told Enter bare = enter_told a s block granted h r
  kind_told (Publish place) bare = file_told (Publish place) refl (publish_none (nat_lt 1 (length (written_slots r))) a s)
  kind_told ReturnNumber bare = file_told ReturnNumber
      (by_back (λ (u : Shared) (x : HandState). u.book.history ≡ s.book.history) s h (λ numbers ino. refl)) refl
  kind_told (SnapshotOrCleaner step) bare = step_told a granted s h r step bare.0 bare.1
  kind_told other bare = file_told other refl refl

-- ---- events

turned_told : (d : PlainChange) (t : Turn) (actor : ℕ) (w : World) → OnHistory d actor w.shared t
    → Tells d actor w.shared (turned t actor w).world.shared
turned_told d (Moves s h r) actor w on = on
turned_told d other actor w on = on

event_told : (w : World) (e : Event) → AreBare w → Tells (plain_change_of w e) (actor_of e) w.shared (step w e).world.shared
event_told w (Start actor c) bare =
    start_deed (λ (d : PlainChange) (v : World). Tells d actor w.shared v.shared) w refl (nat_lt actor (length w.actors)) (actor_at w actor).running
    actor c refl refl (λ there none. refl)
event_told w (Go actor granted) bare =
    go_deed (λ (d : PlainChange) (v : World). Tells d actor w.shared v.shared) w refl (nat_lt actor (length w.actors)) (actor_at w actor).running
    actor granted refl refl (λ r there is. turned_told _ (turn_at w actor granted r) actor w
    (kind_told w.numbers.block actor granted w.shared (actor_at w actor).hand r r.next (bare actor r is)))

-- several more, in two lists
noted_both : (xs ys : List BookEvent) (a : Account) → all_noted a (xs ++ ys) ≡ all_noted (all_noted a xs) ys
noted_both [] ys a = refl
noted_both (x ∷ xs) ys a = noted_both xs ys _

events_told : (events : List Event) (w : World) → ((before : List Event) → AreBare (after w before))
    → (after w events).shared.book.history ≡ all_noted w.shared.book.history (happened w events)
events_told [] w bare = refl
events_told (e ∷ events) w bare =
    events_told events (step w e).world (λ before. bare (e ∷ before))
    ∙ ap (λ (a : Account). all_noted a (happened (step w e).world events)) (event_told w e (bare []))
    ∙ sym (noted_both (added (plain_change_of w e) (actor_of e) w.shared) (happened (step w e).world events) w.shared.book.history)

-- ---- the law

pub history_told : (g : GeometryNumbers) (start : World) (records : List Record) (events : List Event) → IsStart g start records
    → (after start events).shared.book.history ≡ all_noted start.shared.book.history (happened start events)
history_told g start records events is_start = events_told events start (λ before. all_bare g start records before is_start)
