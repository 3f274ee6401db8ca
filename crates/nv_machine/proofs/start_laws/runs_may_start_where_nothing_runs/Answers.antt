use Rattle.nv_machine.proofs.WorldsAtRest.{start_again}
use Rattle.nv_machine.proofs.NewStart.{new_start}
use Rattle.nv_machine.proofs.start_laws.runs_may_start_where_nothing_runs.Goals as goal

pub returns-clause-new : goal.returns-clause-new
returns-clause-new c = new_start

pub returns-clause-again : goal.returns-clause-again
returns-clause-again c = start_again
