use Rattle.nv_audit.proofs.Devices.{marked_agree}
use Rattle.nv_audit.proofs.laws.marked_devices_agree.Goals as goal

pub returns : goal.returns
returns c = marked_agree
