-- What has been decided of a call follows from its next step: nothing before its commit point, and from
-- there on its answer.
use Rattle.std.proofs.Common.{List, Option, [], ap, arith, false, length, nat_lt, refl, sym, true, ℕ, ◌+◌, ◌<◌, ◌∙◌, ◌∷◌, ◌≡◌}
use Rattle.std.specs.Prelude.{Err, Ok, Result}
use Rattle.std.proofs.lemmas.Bool.{false≢true, ltb-false, ltb-true}
use Rattle.nv_base.specs.declared.fault.Fault.{Fault}
use Rattle.nv_calls.specs.AllCalls.{is_nothing}
use Rattle.nv_calls.specs.declared.answer.Answer.{Answer}
use Rattle.nv_calls.specs.declared.call.Call.{Call}
use Rattle.nv_machine.specs.Answered.{answer_of}
use Rattle.nv_machine.specs.EndsDecided.{is_snapshot_or_cleaner}
use Rattle.nv_machine.specs.Kinds.{result_by}
use Rattle.nv_machine.specs.Sequence.{Visits, appending, beginning, closing, locking, looking, opening, publishing, retiring}
use Rattle.nv_machine.specs.World.{Answers, Append, ReturnNumber, Check, Close, Drains, Ending, Give, HandState, Leave, Lock, Look, Next, Number, Open, BoundAnew, Publish, Refuses, Retire, Running, Shared, SnapshotOrCleaner, Turn, Unlock, Visit, go_to, Cleans}
use Rattle.nv_machine.proofs.LoopSteps.{by_test, either, locking_any, looking_any}
use Rattle.nv_machine.proofs.StepWays.{AfterBy, EndsBy, Going, Lasts, Overs, Rests, Telling, by_taking, is_maintained, is_taking}
use Rattle.nv_calls.specs.declared.call.Call.TheVariants as call

-- ---- by the next step

abbrev pub told_by : Ending → Answer → List Answer
told_by Answers a = a ∷ []
told_by other a = []

abbrev pub told_at : Next → Ending → Answer → List Answer
told_at (Retire place) e a = a ∷ []
told_at Leave e a = a ∷ []
told_at (Unlock place) e a = told_by e a
told_at (Give cpu) e a = told_by e a
told_at ReturnNumber e a = told_by e a
told_at other e a = []

abbrev pub IsNoVisit : Call → Type 0
IsNoVisit c = (beginning c ≡ Visits → ⊥) × (is_snapshot_or_cleaner c ≡ false)

-- in the last steps, of a call on files and directories
abbrev pub IsLastOf : Ending → Call → Type 0
IsLastOf e c = (is_maintained e ≡ false) × (is_snapshot_or_cleaner c ≡ false)

-- from its check on a call has something to commit
abbrev pub Stage : Next → Ending → Call → Type 0
Stage Number e c = IsNoVisit c
Stage (Look place) e c = IsNoVisit c
Stage (Lock place) e c = IsNoVisit c
Stage Check e c = IsNoVisit c
Stage Visit e c = beginning c ≡ Visits
Stage (Unlock place) e c = IsLastOf e c × (e ≡ BoundAnew → IsNoVisit c)
Stage (Give cpu) e c = IsLastOf e c
Stage ReturnNumber e c = IsLastOf e c
Stage (SnapshotOrCleaner step) e c = ⊥
Stage other e c = is_nothing c ≡ false

pub record IsTold (k : Next) (r : Running) (d : List Answer) : Type 0 where
  pub told : d ≡ told_at k r.ending (answer_of r)
  pub stage : Stage k r.ending r.call

abbrev pub ResultTold : Result Answer Fault → List Answer → Type 0
ResultTold (Ok found) d = d ≡ found ∷ []
ResultTold (Err fault) d = d ≡ []

-- and so after a turn, with what was decided before it and what is decided then
abbrev pub ToldGoes : List Answer → Going
ToldGoes d s h q = IsTold q.next q d

abbrev pub ToldEnds : List Answer → Telling
ToldEnds d x s h = ResultTold x d

abbrev pub OnTold : List Answer → List Answer → Turn → Type 0
OnTold before d t = AfterBy (d ≡ before) (ToldGoes d) (ToldEnds d) t

-- what has something to commit is no visit
pub no_visit : (c : Call) → is_nothing c ≡ false → IsNoVisit c
no_visit (call.Read file offset count) some = cc
no_visit (call.Stat handle) some = cc
no_visit (call.List dir) some = cc
no_visit (call.Lookup dir name) some = cc
no_visit (call.SnapshotOrCleaner what) some = cc
no_visit other some = (λ e. cc, refl)

-- nor is a visit on snapshots
pub plain_visit : (c : Call) → beginning c ≡ Visits → is_snapshot_or_cleaner c ≡ false
plain_visit (call.SnapshotOrCleaner what) e = cc
plain_visit other e = refl

-- ---- last steps

result_told : (e : Ending) (r : Running) (d : List Answer) → is_maintained e ≡ false
    → d ≡ told_by e (answer_of r) → ResultTold (result_by e r) d
result_told (Drains draining) r d last is = absurd (false≢true (sym last))
result_told (Cleans cleaned) r d last is = absurd (false≢true (sym last))
result_told other r d last is = is

module _ {d : List Answer} {r : Running} {e : Ending} (last : IsLastOf e r.call) (is : d ≡ told_by e (answer_of r)) where
  pub lasts_told : {s : Shared} {h : HandState} → Lasts (ToldGoes d) (ToldEnds d) s h r e
  lasts_told = record {
    told = λ full. result_told e r d last.0 is;
    picks = λ draining left drains some. absurd (false≢true (sym last.0 ∙ ap is_maintained drains));
  }

  pub rests_told : {home : Option ℕ} {s : Shared} {h : HandState} → Rests (ToldGoes d) (ToldEnds d) home s h r e
  rests_told = record {
    give = λ cpu some. record { told = is; stage = last };
    back = λ ino none some. record { told = is; stage = last };
    lasts = λ none gone. lasts_told;
  }

  module _ (none : e ≡ BoundAnew → IsNoVisit r.call) where
    pub overs_told : {s : Shared} {h : HandState} → Overs (ToldGoes d) (ToldEnds d) s h r e
    overs_told = record {
      again = λ n over some. record { told = is ∙ ap (λ (x : Ending). told_by x (answer_of r)) over; stage = none over };
      contended = λ over zero. is ∙ ap (λ (x : Ending). told_by x (answer_of r)) over;
      rests = λ not. rests_told;
    }

    pub ends_told : {slots : List ℕ} {s : Shared} {h : HandState} → EndsBy (ToldGoes d) (ToldEnds d) slots s h r e
    ends_told = record { unlock = λ some. record { told = is; stage = (last, none) }; overs = λ empty. overs_told }

module _ {d : List Answer} (is : d ≡ []) where
  pub denied_told : {slots : List ℕ} {s : Shared} {h : HandState} {r : Running} {fault : Fault} → is_snapshot_or_cleaner r.call ≡ false
      → EndsBy (ToldGoes d) (ToldEnds d) slots s h r (Refuses fault)
  denied_told plain = ends_told (refl, plain) is (λ over. cc)

  -- ---- up to the check

  pub locking_told : (place : ℕ) (slots : List ℕ) (r : Running) → IsNoVisit r.call → IsTold (locking place slots) r d
  locking_told place slots r none =
      locking_any (λ (k : Next). IsTold k r d) (λ place. record { told = is; stage = none }) (record { told = is; stage = none }) place slots

  pub looking_told : (place : ℕ) (q : Running) → IsNoVisit q.call → IsTold (looking place q) (go_to (looking place q) q) d
  looking_told place q none =
      looking_any (λ (k : Next). IsTold k (go_to (looking place q) q) d) (λ place. record { told = is; stage = none })
      (λ place. record { told = is; stage = none }) (record { told = is; stage = none }) place q

  -- ---- takings

  pub taking_told : (next : Next) (r : Running) → is_taking next ≡ true → is_nothing r.call ≡ false → IsTold next r d
  taking_told next r on some = by_taking (λ (k : Next). IsTold k r d) (λ asked. record { told = is; stage = some })
      (λ asked. record { told = is; stage = some }) (record { told = is; stage = some }) next on

-- ---- the steps of a commit

-- up to the commit point, and behind it
abbrev IsBefore : Next → Type 0
IsBefore (Append place) = Unit {0}
IsBefore Open = Unit {0}
IsBefore (Publish place) = Unit {0}
IsBefore Close = Unit {0}
IsBefore other = ⊥

abbrev IsBehind : Next → Type 0
IsBehind (Retire place) = Unit {0}
IsBehind Leave = Unit {0}
IsBehind other = ⊥

pub before_told : (k : Next) (r : Running) (d : List Answer) → IsBefore k → d ≡ [] → is_nothing r.call ≡ false → IsTold k r d
before_told (Append place) r d at is some = record { told = is; stage = some }
before_told Open r d at is some = record { told = is; stage = some }
before_told (Publish place) r d at is some = record { told = is; stage = some }
before_told Close r d at is some = record { told = is; stage = some }
before_told other r d at is some = absurd at

pub behind_told : (k : Next) (r : Running) (d : List Answer) → IsBehind k → d ≡ answer_of r ∷ [] → is_nothing r.call ≡ false → IsTold k r d
behind_told (Retire place) r d at is some = record { told = is; stage = some }
behind_told Leave r d at is some = record { told = is; stage = some }
behind_told other r d at is some = absurd at

module _ (written : List ℕ) where
  pub retiring_behind : (place : ℕ) → IsBehind (retiring place written)
  retiring_behind place = either IsBehind (nat_lt place (length written)) (Retire place) Leave tt tt

  publishing_before : 0 < length written → IsBefore (publishing 0 written)
  publishing_before some =
      by_test IsBefore (nat_lt 0 (length written)) (Publish 0) (closing written) (λ e. tt)
      (λ e. absurd (omega (arith, some, ltb-false 0 (length written) e)))

  pub appending_before : (place : ℕ) → 0 < length written → IsBefore (appending place written)
  appending_before place some =
      either IsBefore (nat_lt place (length written)) (Append place) (opening written) tt
      (either IsBefore (nat_lt 1 (length written)) Open (publishing 0 written) tt (publishing_before some))

  -- of several inodes a publish is before the commit point
  pub several_before : (place : ℕ) → nat_lt 1 (length written) ≡ true → IsBefore (publishing place written)
  several_before place several =
      either IsBefore (nat_lt place (length written)) (Publish place) (closing written) tt
      (by_test IsBefore (nat_lt 1 (length written)) Close (retiring 0 written) (λ e. tt)
      (λ one. absurd (false≢true (sym one ∙ several))))

  -- of one inode the only publish is the commit point
  pub single_behind : (place : ℕ) → nat_lt 1 (length written) ≡ false → IsBehind (publishing (place + 1) written)
  single_behind place one =
      by_test IsBehind (nat_lt (place + 1) (length written)) (Publish (place + 1)) (closing written)
      (λ e. absurd (omega (arith, ltb-true (place + 1) (length written) e, ltb-false 1 (length written) one)))
      (λ e. by_test IsBehind (nat_lt 1 (length written)) Close (retiring 0 written)
      (λ several. absurd (false≢true (sym one ∙ several))) (λ few. retiring_behind 0))
