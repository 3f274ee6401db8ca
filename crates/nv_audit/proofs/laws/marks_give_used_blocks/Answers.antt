use Rattle.nv_audit.proofs.PartBlocks.{blocks_are_used}
use Rattle.nv_audit.proofs.laws.marks_give_used_blocks.Goals as goal

pub returns : goal.returns
returns c = blocks_are_used
