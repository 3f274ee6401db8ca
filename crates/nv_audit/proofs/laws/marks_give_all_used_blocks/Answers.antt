use Rattle.nv_audit.proofs.Devices.{used_are_had}
use Rattle.nv_audit.proofs.laws.marks_give_all_used_blocks.Goals as goal

pub returns : goal.returns
returns c = used_are_had
