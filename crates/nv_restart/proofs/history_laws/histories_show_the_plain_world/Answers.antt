use Rattle.nv_restart.proofs.PlainStops.{all_plain, new_is, stopped}
use Rattle.nv_restart.proofs.history_laws.histories_show_the_plain_world.Goals as goal

pub returns-clause-stopped : goal.returns-clause-stopped
returns-clause-stopped c = stopped

pub returns-clause-beside : goal.returns-clause-beside
returns-clause-beside c = all_plain

pub returns-clause-new : goal.returns-clause-new
returns-clause-new c = new_is
