use Rattle.nv_restart.proofs.Happenings.{all_reached, new_reached}
use Rattle.nv_restart.proofs.history_laws.histories_are_runs.Goals as goal

pub returns-clause-later : goal.returns-clause-later
returns-clause-later c = all_reached

pub returns-clause-new : goal.returns-clause-new
returns-clause-new c = new_reached
