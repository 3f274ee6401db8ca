-- The number of the last commit is the plain world's.
use Rattle.std.proofs.Common.{◌≡◌, ℕ, ◌+◌, ◌∙◌, Bool, true, false, List, [], ◌∷◌, Option, ap, if◌then◌else◌, length, nat_lt, refl, subst, sym}
use Rattle.std.specs.Prelude.{Result, Ok, Err}
use Rattle.std.proofs.lemmas.Bool.{false≢true, true≢false}
use Rattle.nv_base.specs.declared.fault.Fault.{Fault}
use Rattle.nv_calls.specs.declared.answer.Answer.{Answer}
use Rattle.nv_book.specs.Book.{BookState}
use Rattle.nv_machine.specs.Frame.{IsFramed, Lent, Stays}
use Rattle.nv_machine.specs.Locks.{commits_at}
use Rattle.nv_machine.specs.PlainRun.{Commits, PlainChange, Nothing, Numbers, Maintains, Plain, plain_change, plain_change_of, done, done_on, entered, plain_after, plain_step}
use Rattle.nv_machine.specs.Reads.{written_slots}
use Rattle.nv_machine.specs.Sequence.{appending}
use Rattle.nv_machine.specs.SnapshotOrCleaner.{snapshot_or_cleaner_turn}
use Rattle.nv_machine.specs.Step.{after, kind_turn, step, turned}
use Rattle.nv_machine.specs.World.{Append, Close, Ending, Ends, Enter, Event, HandState, Make, Moves, Next, Open, Publish, Retire, Running, Shared, SnapshotOrCleanerStep, SnapshotOrCleaner, Turn, Unpin, Waits, World, actor_at}
use Rattle.nv_machine.proofs.OverEvents.{event_deed, turn_at}
use Rattle.nv_machine.proofs.StepFrames.{framed}
use Rattle.nv_machine.proofs.StepWork.{snapshot_or_cleaner_work}
use Rattle.nv_machine.proofs.WorkKeeps.{AfterTurn, snapshot_keeps}
use Rattle.nv_machine.proofs.LoopSteps.{appending_any, goes_on}
use Rattle.nv_machine.proofs.StepWays.{After, Closes, is_last, by_last}
use Rattle.nv_machine.proofs.StepWalk.{walk}

-- the number after a deed
abbrev counted : PlainChange → ℕ → ℕ
counted Numbers n = n + 1
counted other n = n

done_counted : (d : PlainChange) (running : Option Running) (p : Plain) → (done d running p).commit ≡ counted d p.commit
done_counted (Maintains Make) running p = refl
done_counted other running p = refl

-- a turn leaves the book with the number after its deed
abbrev OnNumber : PlainChange → Shared → Turn → Type 0
OnNumber d s (Moves t h q) = t.book.commit ≡ counted d s.book.commit
OnNumber d s Waits = s.book.commit ≡ counted d s.book.commit
OnNumber d s (Ends result t h) = t.book.commit ≡ counted d s.book.commit

-- a step that is not lent the book
same_book : (l : Lent) (d : PlainChange) (s : Shared) (t : Turn) → l.book ≡ false → ((n : ℕ) → n ≡ counted d n) → IsFramed l s t → OnNumber d s t
same_book l d s (Moves t h q) e same f = ap (λ (b : BookState). b.commit) (subst (λ (b : Bool). Stays b (t.book ≡ s.book)) e f.book)
    ∙ same s.book.commit
same_book l d s Waits e same f = same s.book.commit
same_book l d s (Ends result t h) e same f = ap (λ (b : BookState). b.commit) (subst (λ (b : Bool). Stays b (t.book ≡ s.book)) e f.book)
    ∙ same s.book.commit

-- ---- enter

pub enters_appending : (place : ℕ) (written : List ℕ) → commits_at (appending place written) ≡ true
enters_appending = appending_any (λ (k : Next). commits_at k ≡ true)
    (record { append = λ place. refl; opens = refl; publish = λ place. refl; close = refl; retire = λ place. refl; leave = refl })

module _ (s : Shared) where
  abbrev Enters : Shared → HandState → Running → Type 0
  Enters t h q = t.book.commit ≡ counted (if commits_at q.next then Numbers else Nothing) s.book.commit

  abbrev IsSame : Result Answer Fault → Shared → HandState → Type 0
  IsSame result t h = t.book.commit ≡ s.book.commit

  on_entered : (turn : Turn) → After Enters IsSame turn → OnNumber (entered turn) s turn
  on_entered (Moves t h q) on = on
  on_entered Waits on = refl
  on_entered (Ends result t h) on = on

  last_out : (k : Next) → is_last k ≡ true → s.book.commit ≡ counted (if commits_at k then Numbers else Nothing) s.book.commit
  last_out = by_last (λ (k : Next). s.book.commit ≡ counted (if commits_at k then Numbers else Nothing) s.book.commit) (λ place. refl)
      (λ cpu. refl) refl

  closes : (h : HandState) (r : Running) (e : Ending) → Closes Enters IsSame s h r e
  closes h r e = record { last = last_out; told = refl; again = λ n over some. refl; picks = λ d left drains some. refl }

  goes_in : (k : Next) → commits_at k ≡ true → s.book.commit + 1 ≡ counted (if commits_at k then Numbers else Nothing) s.book.commit
  goes_in k e = go (commits_at k) e where
    go : (b : Bool) → b ≡ true → s.book.commit + 1 ≡ counted (if b then Numbers else Nothing) s.book.commit
    go true e = refl
    go false e = cc

  enter_counted : (block a : ℕ) (granted : Bool) (h : HandState) (r : Running)
      → OnNumber (entered (kind_turn Enter block a granted s h r)) s (kind_turn Enter block a granted s h r)
  enter_counted block a granted h r =
      on_entered (kind_turn Enter block a granted s h r) (walk Enters IsSame block a s h r Enter granted (record {
        stops = λ e by. closes h r e;
        goes = λ on clear. goes_in (appending 0 (written_slots r)) (enters_appending 0 (written_slots r));
        takes = λ on n next taking. absurd (false≢true on);
        over = λ on. absurd (false≢true on);
        short = λ on. absurd (false≢true on);
        told = λ on clear. absurd (true≢false (ap goes_on on));
      }) refl)

-- ---- every kind

publish_stays : (b : Bool) (n : ℕ) → n ≡ counted (if b then Nothing else Commits) n
publish_stays true n = refl
publish_stays false n = refl

-- a step of a call on snapshots leaves the number of the last commit
deed_counted : (step : SnapshotOrCleanerStep) (n : ℕ) (t : Turn) → counted (done_on step t) n ≡ n
deed_counted step n (Moves s h r) = refl
deed_counted step n Waits = refl
deed_counted (Unpin snapshot seen) n (Ends result s h) = refl
deed_counted other n (Ends (Ok found) s h) = refl
deed_counted other n (Ends (Err fault) s h) = refl

after_counted : (d : PlainChange) (s : Shared) (t : Turn) → counted d s.book.commit ≡ s.book.commit
    → AfterTurn (λ u h. u.book.commit ≡ s.book.commit) t → OnNumber d s t
after_counted d s (Moves u h r) e on = on ∙ sym e
after_counted d s Waits e on = sym e
after_counted d s (Ends result u h) e on = on ∙ sym e

snapshot_counted : (step : SnapshotOrCleanerStep) (a : ℕ) (granted : Bool) (s : Shared) (h : HandState) (r : Running)
    → OnNumber (done_on step (snapshot_or_cleaner_turn step a granted s h r)) s (snapshot_or_cleaner_turn step a granted s h r)
snapshot_counted step a granted s h r =
    after_counted (done_on step (snapshot_or_cleaner_turn step a granted s h r)) s (snapshot_or_cleaner_turn step a granted s h r)
    (deed_counted step s.book.commit (snapshot_or_cleaner_turn step a granted s h r))
    (snapshot_keeps (λ u h. u.book.commit ≡ s.book.commit) step a granted s h r refl (same step)) where
      same : (step : SnapshotOrCleanerStep) → (snapshot_or_cleaner_work step a s h).shared.book.commit ≡ s.book.commit
      same Make = refl
      same other = refl

kind_counted : (k : Next) (block a : ℕ) (granted : Bool) (s : Shared) (h : HandState) (r : Running)
    → OnNumber (plain_change k (written_slots r) (kind_turn k block a granted s h r)) s (kind_turn k block a granted s h r)
kind_counted Enter block a granted s h r = enter_counted s block a granted h r
kind_counted (Append place) block a granted s h r = refl
kind_counted Open block a granted s h r = refl
kind_counted (Publish place) block a granted s h r = publish_stays (nat_lt 1 (length (written_slots r))) s.book.commit
kind_counted Close block a granted s h r = refl
kind_counted (Retire place) block a granted s h r = refl
kind_counted (SnapshotOrCleaner step) block a granted s h r = snapshot_counted step a granted s h r
kind_counted other block a granted s h r = same_book _ Nothing s _ refl (λ n. refl) (framed other block a granted s h r)

-- ---- events

turned_counted : (d : PlainChange) (t : Turn) (actor : ℕ) (w : World) → OnNumber d w.shared t
    → (turned t actor w).world.shared.book.commit ≡ counted d w.shared.book.commit
turned_counted d (Moves s h r) actor w on = on
turned_counted d other actor w on = on

event_counted : (w : World) (e : Event) → (step w e).world.shared.book.commit ≡ counted (plain_change_of w e) w.shared.book.commit
event_counted w e = event_deed (λ (d : PlainChange) (v : World). v.shared.book.commit ≡ counted d w.shared.book.commit) w refl e
    (λ actor c there is. refl)
    (λ actor granted r there is. turned_counted _ (turn_at w actor granted r) actor w
    (kind_counted r.next w.numbers.block actor granted w.shared (actor_at w actor).hand r))

pub events_counted : (events : List Event) (w : World) (p : Plain) → w.shared.book.commit ≡ p.commit
    → (after w events).shared.book.commit ≡ (plain_after w events p).commit
events_counted [] w p e = e
events_counted (event ∷ events) w p e = events_counted events (step w event).world (plain_step w event p)
    (event_counted w event ∙ ap (counted (plain_change_of w event)) e ∙ sym (done_counted (plain_change_of w event) _ p))
