use Rattle.nv_core.proofs.Consistent.{consistent}
use Rattle.nv_core.proofs.laws.worlds_are_consistent.Goals as goal

pub returns : goal.returns
returns c = consistent
