-- What a turn of a call on snapshots comes to: it waits, ends the call, or goes on to a step of such a call
-- or to the last steps.
use Rattle.std.proofs.Common.{◌≡◌, ◌⊎◌, ℕ, Bool, true, false, Result, Ok, Err, refl, inl, inr, ap}
use Rattle.nv_base.specs.declared.fault.Fault.{Fault}
use Rattle.nv_calls.specs.declared.answer.Answer.{Answer}
use Rattle.nv_machine.specs.PlainRun.{Nothing, Maintains, done_on, keeps_nodes}
use Rattle.nv_machine.specs.SnapshotOrCleaner.{snapshot_or_cleaner_turn}
use Rattle.nv_machine.specs.World.{Answers, ReturnNumber, Drains, Ending, Ends, Give, HandState, Moves, Next, BoundAnew, Refuses, Running, Shared, SnapshotOrCleanerStep, SnapshotOrCleaner, Turn, Unlock, Unpin, Waits}
use Rattle.nv_machine.proofs.StepWays.{After, Closes, any_ends, is_last, by_last}
use Rattle.nv_machine.proofs.SnapshotOrCleanerWalk.{snapshot_or_cleaner_walk, ends_apart}

abbrev pub is_quiet : Next → Bool
is_quiet (SnapshotOrCleaner step) = true
is_quiet (Unlock place) = true
is_quiet (Give cpu) = true
is_quiet ReturnNumber = true
is_quiet other = false

-- the unlock is that of a call whose names were not bound anew
abbrev pub is_fair : Next → Ending → Bool
is_fair (Unlock place) BoundAnew = false
is_fair other ending = true

pub last_quiet : (k : Next) → is_last k ≡ true → is_quiet k ≡ true
last_quiet = by_last (λ (k : Next). is_quiet k ≡ true) (λ place. refl) (λ cpu. refl) refl

pub fair_for : (k : Next) (e : Ending) → (e ≡ BoundAnew → ⊥) → is_fair k e ≡ true
fair_for (Unlock place) BoundAnew not = absurd (not refl)
fair_for (Unlock place) Answers not = refl
fair_for (Unlock place) (Refuses fault) not = refl
fair_for (Unlock place) (Drains draining) not = refl
fair_for other e not = refl

module _ (P : Turn → Type 0) (waits : P Waits)
    (ends : (result : Result Answer Fault) (s : Shared) (h : HandState) → P (Ends result s h))
    (moves : (s : Shared) (h : HandState) (q : Running) → is_quiet q.next ≡ true → is_fair q.next q.ending ≡ true
    → P (Moves s h q)) where
  on_turn : (t : Turn) → After (λ (s : Shared) (h : HandState) (q : Running). P (Moves s h q))
      (λ (x : Result Answer Fault) (s : Shared) (h : HandState). P (Ends x s h)) t → P t
  on_turn (Moves s h q) on = on
  on_turn Waits on = waits
  on_turn (Ends x s h) on = on

  closes : (s : Shared) (h : HandState) (r : Running) (e : Ending) → (e ≡ BoundAnew → ⊥)
      → Closes (λ (s : Shared) (h : HandState) (q : Running). P (Moves s h q))
      (λ (x : Result Answer Fault) (s : Shared) (h : HandState). P (Ends x s h)) s h r e
  closes s h r e not = record {
    last = λ k is. moves s h (record r { ending = e; next = k }) (last_quiet k is) (fair_for k e not);
    told = ends _ s h;
    again = λ n over some. absurd (not over);
    picks = λ d left drains some. moves s h _ refl refl;
  }

  pub snapshot_any : (step : SnapshotOrCleanerStep) (actor : ℕ) (granted : Bool) (s : Shared) (h : HandState) (r : Running)
      → P (snapshot_or_cleaner_turn step actor granted s h r)
  snapshot_any step actor granted s h r = on_turn (snapshot_or_cleaner_turn step actor granted s h r)
      (snapshot_or_cleaner_walk _ _ actor s h r step granted (record {
        stops = λ fault cause. any_ends (closes s h r _ (λ over. cc));
        goes = λ on clear. moves _ _ _ refl refl;
        told = λ on clear. ends _ _ _;
        denied = λ snapshot showing on. moves s h _ refl refl;
        leads_on = λ next leads. moves _ _ _ refl refl;
        over = λ e ends. any_ends (closes _ _ r _ (ends_apart step actor s h e ends));
        none = λ draining on empty. ends _ s h;
      }))

-- ---- what it does in the plain world

pub done_is : (step : SnapshotOrCleanerStep) (t : Turn) → (done_on step t ≡ Nothing) ⊎ (done_on step t ≡ Maintains step)
done_is step (Moves s h r) = inr refl
done_is step Waits = inl refl
done_is (Unpin snapshot seen) (Ends result s h) = inr refl
done_is other (Ends (Ok found) s h) = inr refl
done_is other (Ends (Err fault) s h) = inl refl

-- it keeps nodes
pub done_keeps : (step : SnapshotOrCleanerStep) (t : Turn) → keeps_nodes (done_on step t) ≡ true
done_keeps step t = elim (done_is step t) [
  | inl none ↦ ap keeps_nodes none
  | inr some ↦ ap keeps_nodes some
]
