use Rattle.nv_restart.proofs.WorldImages.{all_may_stop, faultless}
use Rattle.nv_restart.proofs.world_laws.images_of_worlds_have_no_fault.Goals as goal

pub returns-clause-may : goal.returns-clause-may
returns-clause-may c = all_may_stop

pub returns-clause-faultless : goal.returns-clause-faultless
returns-clause-faultless c = faultless
