-- What a call is to end with, step by step: whatever fault it is refused for meets what is asked of it.
use Rattle.std.proofs.Common.{Bool, None, Option, Some, false, refl, subst, ℕ, ◌≡◌}
use Rattle.std.specs.Prelude.{Err, Ok, Result}
use Rattle.std.proofs.lemmas.Bool.{true≢false}
use Rattle.nv_base.specs.declared.fault.Fault.{Fault}
use Rattle.nv_calls.specs.declared.answer.Answer.{Answer}
use Rattle.nv_machine.specs.Causes.{EndsFor, RefusesFor}
use Rattle.nv_machine.specs.Hands.{is_going}
use Rattle.nv_machine.specs.Kinds.{result_by}
use Rattle.nv_machine.specs.SnapshotOrCleaner.{shown_by}
use Rattle.nv_machine.specs.Step.{kind_turn, turned}
use Rattle.nv_machine.specs.World.{Actor, Answers, ReturnNumber, Drains, Ending, Ends, Give, HandState, Moves, Next, BoundAnew, Refused, Refuses, Running, Shared, SnapshotOrCleaner, Turn, Unlock, Unpin, Waits, World, Cleans}
use Rattle.nv_machine.proofs.OverEvents.{OwnAfter}
use Rattle.nv_machine.proofs.AloneLooks.{IsLate}
use Rattle.nv_machine.proofs.StepWays.{After, Closes, Going, Telling}
use Rattle.nv_machine.proofs.StepWalk.{last_walk}
use Rattle.nv_machine.proofs.SnapshotOrCleanerWalk.{step_walk_by}

module _ (P : Fault → Type 0) where
  -- whatever fault it is to end with meets this; and so after a turn
  abbrev pub Fine : Ending → Type 0
  Fine (Refuses fault) = P fault
  Fine other = Unit {0}

  abbrev pub FineOf : Option Running → Type 0
  FineOf None = Unit {0}
  FineOf (Some r) = Fine r.ending

  abbrev pub ResultFine : Result Answer Fault → Type 0
  ResultFine (Ok found) = Unit {0}
  ResultFine (Err fault) = P fault

  abbrev FineGoes : Going
  FineGoes s h q = Fine q.ending

  abbrev FineTold : Telling
  FineTold x s h = ResultFine x

  abbrev pub OnFine : Turn → Type 0
  OnFine t = After FineGoes FineTold t

  closes_fine : {s : Shared} {h : HandState} {r : Running} (e : Ending) → (e ≡ BoundAnew → ⊥) → Fine e → Closes FineGoes FineTold s h r e
  closes_fine e over is = record {
    last = λ k on. is;
    told = told _ e over is;
    again = λ n overtaken some. tt;
    picks = λ d left drains some. tt;
  } where
    told : (r : Running) (x : Ending) → (x ≡ BoundAnew → ⊥) → Fine x → ResultFine (result_by x r)
    told r (Refuses fault) over is = is
    told r BoundAnew over is = absurd (over refl)
    told r other over is = tt

  -- the last steps leave it so
  pub ends_fine : (k : Next) (block actor : ℕ) (granted : Bool) (s : Shared) (h : HandState) (r : Running) → is_going k ≡ false
      → (IsLate k → r.ending ≡ BoundAnew → ⊥) → Fine r.ending → OnFine (kind_turn k block actor granted s h r)
  ends_fine (Unlock place) block actor granted s h r last over is =
      last_walk FineGoes FineTold block actor s h r (Unlock place) granted refl (closes_fine r.ending (over tt) is)
  ends_fine (Give cpu) block actor granted s h r last over is =
      last_walk FineGoes FineTold block actor s h r (Give cpu) granted refl (closes_fine r.ending (over tt) is)
  ends_fine ReturnNumber block actor granted s h r last over is =
      last_walk FineGoes FineTold block actor s h r ReturnNumber granted refl (closes_fine r.ending (over tt) is)
  ends_fine (SnapshotOrCleaner (Unpin snapshot seen)) block actor granted s h r last over is =
      step_walk_by (Unit {0}) FineGoes FineTold actor s h r (Unpin snapshot seen) granted (λ blocked. tt) (λ clear. go r.ending is) where
        go : (e : Ending) → Fine e → ResultFine (shown_by e seen)
        go (Refuses fault) f = f
        go other f = tt
  ends_fine other block actor granted s h r last over is = absurd (true≢false last)

  -- and one that refuses it has a cause
  pub caused_fine : (C : Fault → Type 0) (Q : Type 0) → ((fault : Fault) → C fault → P fault) → (t : Turn) → RefusesFor C Q t → OnFine t
  caused_fine C Q cause (Moves s h q) is = go q.ending is where
    go : (e : Ending) → EndsFor C Q q.next e → Fine e
    go Answers f = tt
    go (Refuses fault) f = cause fault f.0
    go BoundAnew f = tt
    go (Drains draining) f = tt
    go (Cleans cleaned) f = tt
  caused_fine C Q cause Waits is = tt
  caused_fine C Q cause (Ends (Ok found) s h) is = tt
  caused_fine C Q cause (Ends (Err fault) s h) is = cause fault is

  pub after_fine : (x : Actor) (t : Turn) → FineOf x.running → OnFine t → OwnAfter x (λ (y : Actor). FineOf y.running) t
  after_fine x (Moves s h q) had on = on
  after_fine x Waits had on = had
  after_fine x (Ends result s h) had on = tt

  pub reply_fine : (t : Turn) (actor : ℕ) (w : World) (fault : Fault) → OnFine t → (turned t actor w).reply ≡ Refused fault → P fault
  reply_fine (Moves s h q) actor w fault on e = cc
  reply_fine Waits actor w fault on e = cc
  reply_fine (Ends (Ok found) s h) actor w fault on e = cc
  reply_fine (Ends (Err other) s h) actor w fault on e = let same : other ≡ fault = cc in subst P same on
