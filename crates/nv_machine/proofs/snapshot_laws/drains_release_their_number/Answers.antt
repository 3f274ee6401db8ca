use Rattle.nv_machine.proofs.DrainAnswers.{drain_few, drain_told}
use Rattle.nv_machine.specs.Step.{after}
use Rattle.nv_machine.proofs.snapshot_laws.drains_release_their_number.Goals as goal

pub returns-clause-never_more : goal.returns-clause-never_more
returns-clause-never_more c g start records before events actor count is_start started apart =
    drain_few actor count (after start before) started events apart

pub returns-clause-answer : goal.returns-clause-answer
returns-clause-answer c g start records before events actor count told granted is_start started apart reply =
    (drain_told actor count (after start before) started events granted told apart reply).0

pub returns-clause-number : goal.returns-clause-number
returns-clause-number c g start records before events actor count told granted is_start started apart reply =
    (drain_told actor count (after start before) started events granted told apart reply).1
