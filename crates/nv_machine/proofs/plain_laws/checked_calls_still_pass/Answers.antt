use Rattle.nv_machine.proofs.FitsLaws.{still_passes}
use Rattle.nv_machine.proofs.plain_laws.checked_calls_still_pass.Goals as goal

pub returns-clause-passes : goal.returns-clause-passes
returns-clause-passes c = λ g start records events actor r is_start is e. (still_passes g start records events actor r is_start is e).passes

pub returns-clause-found : goal.returns-clause-found
returns-clause-found c = λ g start records events actor r is_start is e. (still_passes g start records events actor r is_start is e).found
