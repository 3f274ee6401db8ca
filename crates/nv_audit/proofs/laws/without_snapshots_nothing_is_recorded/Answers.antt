use Rattle.nv_audit.proofs.Devices.{none_recorded}
use Rattle.nv_audit.proofs.laws.without_snapshots_nothing_is_recorded.Goals as goal

pub returns : goal.returns
returns c = none_recorded
