use Rattle.nv_machine.proofs.WorldFacts.{pool_scanned}
use Rattle.nv_machine.proofs.laws.pool_is_from_scratch.Goals as goal

pub returns : goal.returns
returns c = pool_scanned
