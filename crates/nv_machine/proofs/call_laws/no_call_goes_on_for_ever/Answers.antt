use Rattle.nv_machine.proofs.MoveBounds.{calls_stop, moves_end, steps_few}
use Rattle.nv_machine.proofs.call_laws.no_call_goes_on_for_ever.Goals as goal

pub returns-clause-steps : goal.returns-clause-steps
returns-clause-steps c = steps_few

pub returns-clause-bound : goal.returns-clause-bound
returns-clause-bound c = moves_end

pub returns-clause-rows : goal.returns-clause-rows
returns-clause-rows c = calls_stop
