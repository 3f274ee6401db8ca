use Rattle.nv_machine.proofs.WorldFacts.{told}
use Rattle.nv_machine.proofs.laws.blocks_are_told.Goals as goal

pub returns : goal.returns
returns c = told
