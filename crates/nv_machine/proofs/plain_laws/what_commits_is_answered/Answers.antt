use Rattle.nv_machine.proofs.EndingsStay.{cells_are_answered, commits_to_answer, goes_to_end, no_node_tells}
use Rattle.nv_machine.proofs.plain_laws.what_commits_is_answered.Goals as goal

pub returns-clause-commits : goal.returns-clause-commits
returns-clause-commits c = commits_to_answer

pub returns-clause-goes : goal.returns-clause-goes
returns-clause-goes c = goes_to_end

pub returns-clause-same : goal.returns-clause-same
returns-clause-same c = no_node_tells

pub returns-clause-writes : goal.returns-clause-writes
returns-clause-writes c = cells_are_answered
