use Rattle.nv_restart.proofs.FewSnapshots.{all_fit}
use Rattle.nv_restart.proofs.world_laws.snapshots_stay_few.Goals as goal

pub returns : goal.returns
returns c = all_fit
