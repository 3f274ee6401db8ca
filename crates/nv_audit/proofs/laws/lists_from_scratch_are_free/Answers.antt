use Rattle.nv_audit.proofs.Devices.{scratch_is_free}
use Rattle.nv_audit.proofs.laws.lists_from_scratch_are_free.Goals as goal

pub returns : goal.returns
returns c = scratch_is_free
