use Rattle.std.proofs.Common.{◌≡◌, ℕ}
use Rattle.nv_calls.specs.declared.answer.Answer.TheVariants as answers
use Rattle.nv_machine.proofs.DrainAnswers.{drain_refused, drain_told, pick_nothing}
use Rattle.nv_machine.specs.Step.{after}
use Rattle.nv_machine.proofs.snapshot_laws.drains_count_their_releases.Goals as goal

same_count : (n m : ℕ) → answers.Count n ≡ answers.Count m → n ≡ m
same_count n m e = cc

pub returns-clause-answer : goal.returns-clause-answer
returns-clause-answer c g start records before events actor count told granted is_start started apart reply =
    same_count _ _ (drain_told actor count (after start before) started events granted (answers.Count told) apart reply).0

pub returns-clause-refused : goal.returns-clause-refused
returns-clause-refused c g start records before events actor count fault granted is_start started apart some reply =
    drain_refused actor count (after start before) started events granted fault apart some reply

pub returns-clause-nothing : goal.returns-clause-nothing
returns-clause-nothing c draining actor told granted s t h after r e = pick_nothing draining actor told granted s t h after r e
