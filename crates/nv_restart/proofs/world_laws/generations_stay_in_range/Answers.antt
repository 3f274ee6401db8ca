use Rattle.nv_restart.proofs.Generations.{all_in_range}
use Rattle.nv_restart.proofs.world_laws.generations_stay_in_range.Goals as goal

pub returns : goal.returns
returns c = all_in_range
