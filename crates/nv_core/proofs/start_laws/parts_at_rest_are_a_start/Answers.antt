use Rattle.nv_core.proofs.RestStarts.{may_stop, starts}
use Rattle.nv_core.proofs.start_laws.parts_at_rest_are_a_start.Goals as goal

pub returns-clause-start : goal.returns-clause-start
returns-clause-start c = starts

pub returns-clause-may : goal.returns-clause-may
returns-clause-may c = may_stop
