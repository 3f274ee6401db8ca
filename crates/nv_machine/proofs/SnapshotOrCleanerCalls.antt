-- A step of a call on snapshots, and one of the last steps, leaves its call the call that it is, and never lets it begin anew.
use Rattle.std.proofs.Common.{◌≡◌, ℕ, Bool, true, refl}
use Rattle.std.specs.Prelude.{Result}
use Rattle.nv_base.specs.declared.fault.Fault.{Fault}
use Rattle.nv_calls.specs.declared.answer.Answer.{Answer}
use Rattle.nv_machine.specs.SnapshotOrCleaner.{snapshot_or_cleaner_turn}
use Rattle.nv_machine.specs.Step.{kind_turn}
use Rattle.nv_machine.specs.World.{Ending, HandState, Next, BoundAnew, Refuses, Running, Shared, SnapshotOrCleanerStep, Turn}
use Rattle.nv_machine.proofs.StepWays.{After, Closes, any_ends, is_last}
use Rattle.nv_machine.proofs.StepWalk.{last_walk}
use Rattle.nv_machine.proofs.SnapshotOrCleanerWalk.{snapshot_or_cleaner_walk, ends_apart}

-- the same call, overtaken only where it was
pub record IsFrom (r q : Running) : Type 0 where
  pub call : q.call ≡ r.call
  pub looked : q.looked ≡ r.looked
  pub over : q.ending ≡ BoundAnew → r.ending ≡ BoundAnew

abbrev From : Running → Shared → HandState → Running → Type 0
From b s h q = IsFrom b q

abbrev IsEnd : Result Answer Fault → Shared → HandState → Type 0
IsEnd result s h = Unit {0}

abbrev pub OnFrom : Running → Turn → Type 0
OnFrom b turn = After (From b) IsEnd turn

closes : (s : Shared) (h : HandState) (r : Running) (e : Ending) → (e ≡ BoundAnew → r.ending ≡ BoundAnew)
    → Closes (From r) IsEnd s h r e
closes s h r e over = record {
  last = λ k is. record { call = refl; looked = refl; over = over };
  told = tt;
  again = λ n is some. record { call = refl; looked = refl; over = λ is. cc };
  picks = λ d left drains some. record { call = refl; looked = refl; over = λ is. cc };
}

pub last_from : (k : Next) (block a : ℕ) (granted : Bool) (s : Shared) (h : HandState) (r : Running) → is_last k ≡ true
    → OnFrom r (kind_turn k block a granted s h r)
last_from k block a granted s h r is = last_walk (From r) IsEnd block a s h r k granted is (closes _ _ r r.ending (λ over. over))

pub snapshot_from : (step : SnapshotOrCleanerStep) (actor : ℕ) (granted : Bool) (s : Shared) (h : HandState) (r : Running)
    → OnFrom r (snapshot_or_cleaner_turn step actor granted s h r)
snapshot_from step actor granted s h r = snapshot_or_cleaner_walk (From r) IsEnd actor s h r step granted (record {
  stops = λ fault cause. any_ends (closes s h r (Refuses fault) (λ is. cc));
  goes = λ on clear. record { call = refl; looked = refl; over = λ is. is };
  told = λ on clear. tt;
  denied = λ snapshot showing on. record { call = refl; looked = refl; over = λ is. cc };
  leads_on = λ next leads. record { call = refl; looked = refl; over = λ is. is };
  over = λ e ends. any_ends (closes _ _ r _ (λ over. absurd (ends_apart step actor s h e ends over)));
  none = λ draining on empty. tt;
})
