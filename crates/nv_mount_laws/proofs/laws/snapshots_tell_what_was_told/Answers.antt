use Rattle.nv_mount_laws.proofs.SnapshotTells.{tells_as_then}
use Rattle.nv_mount_laws.proofs.laws.snapshots_tell_what_was_told.Goals as goal

pub returns : goal.returns
returns c = tells_as_then
