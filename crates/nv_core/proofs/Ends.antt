-- A call turns to its last steps alike, wherever it stands.
use Rattle.std.proofs.Common.{◌≡◌, ℕ, zero, suc, List, [], ◌∷◌, Option, Some, None, Result, ap, arith, length, map, refl, take}
use Rattle.std.proofs.lemmas.List.{drop_all, length-take}
use Rattle.nv_base.specs.declared.fault.Fault.{Fault}
use Rattle.nv_calls.specs.Commit.{CommitValue}
use Rattle.nv_calls.specs.Ready.{CellCommitValue}
use Rattle.nv_calls.specs.declared.answer.Answer.{Answer}
use Rattle.nv_machine.specs.Kinds.{again_turn, blocks_in, drained_turn, end_turn, last_turn, over_turn, rest_turn, result_by}
use Rattle.nv_machine.specs.Reads.{home_from}
use Rattle.nv_machine.specs.World.{Answers, Cleans, Drains, Ending, Ends, HandState, Next, BoundAnew, Refuses, Running, Shared, go_to}
use Rattle.nv_core.specs.Shown.{killed_in}

result_anywhere : (ending : Ending) (r : Running) (next : Next) → result_by ending (go_to next r) ≡ result_by ending r
result_anywhere Answers r next = refl
result_anywhere (Refuses fault) r next = refl
result_anywhere BoundAnew r next = refl
result_anywhere (Drains draining) r next = refl
result_anywhere (Cleans cleaned) r next = refl

drained_anywhere : (left released : ℕ) (s : Shared) (h : HandState) (r : Running) (next : Next)
    → drained_turn left released s h (go_to next r) ≡ drained_turn left released s h r
drained_anywhere zero released s h r next = refl
drained_anywhere (suc left) released s h r next = refl

last_anywhere : (ending : Ending) (s : Shared) (h : HandState) (r : Running) (next : Next)
    → last_turn ending s h (go_to next r) ≡ last_turn ending s h r
last_anywhere Answers s h r next = ap (λ (result : Result Answer Fault). Ends result s h) (result_anywhere Answers r next)
last_anywhere (Refuses fault) s h r next = refl
last_anywhere BoundAnew s h r next = refl
last_anywhere (Drains draining) s h r next = drained_anywhere draining.left draining.released s h r next
last_anywhere (Cleans cleaned) s h r next = refl

rest_anywhere : (home : Option ℕ) (number : Option ℕ) (s : Shared) (h : HandState) (r : Running) (next : Next)
    → rest_turn home number s h (go_to next r) ≡ rest_turn home number s h r
rest_anywhere (Some cpu) number s h r next = refl
rest_anywhere None (Some ino) s h r next = refl
rest_anywhere None None s h r next = last_anywhere r.ending s h r next

again_anywhere : (rounds : ℕ) (s : Shared) (h : HandState) (r : Running) (next : Next)
    → again_turn rounds s h (go_to next r) ≡ again_turn rounds s h r
again_anywhere zero s h r next = refl
again_anywhere (suc rounds) s h r next = refl

over_anywhere : (ending : Ending) (s : Shared) (h : HandState) (r : Running) (next : Next)
    → over_turn ending s h (go_to next r) ≡ over_turn ending s h r
over_anywhere Answers s h r next = rest_anywhere (home_from 0 0 s.lists (blocks_in h)) h.ino s h r next
over_anywhere (Refuses fault) s h r next = rest_anywhere (home_from 0 0 s.lists (blocks_in h)) h.ino s h r next
over_anywhere (Drains draining) s h r next = rest_anywhere (home_from 0 0 s.lists (blocks_in h)) h.ino s h r next
over_anywhere (Cleans cleaned) s h r next = rest_anywhere (home_from 0 0 s.lists (blocks_in h)) h.ino s h r next
over_anywhere BoundAnew s h r next = again_anywhere r.rounds s h r next

pub end_anywhere : (slots : List ℕ) (ending : Ending) (s : Shared) (h : HandState) (r : Running) (next : Next)
    → end_turn slots ending s h (go_to next r) ≡ end_turn slots ending s h r
end_anywhere [] ending s h r next = over_anywhere ending s h (record r { ending = ending }) next
end_anywhere (slot ∷ slots) ending s h r next = refl

-- once all that was killed is retired, nothing is left of it
pub all_retired : (c : CommitValue) → c.retired ≡ length c.plans → killed_in c ≡ []
all_retired c retired =
    ap (λ (ps : List CellCommitValue). map (λ (p : CellCommitValue). p.killed) ps)
    (drop_all c.retired (take c.published c.plans) (omega (arith, retired, length-take c.published c.plans)))
