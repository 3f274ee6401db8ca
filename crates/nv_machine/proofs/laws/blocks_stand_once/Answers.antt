use Rattle.nv_machine.proofs.WorldFacts.{each_once}
use Rattle.nv_machine.proofs.laws.blocks_stand_once.Goals as goal

pub returns : goal.returns
returns c = each_once
