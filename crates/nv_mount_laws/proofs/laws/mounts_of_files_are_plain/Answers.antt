use Rattle.nv_mount_laws.proofs.OfFiles.{files_plain}
use Rattle.nv_mount_laws.proofs.laws.mounts_of_files_are_plain.Goals as goal

pub returns : goal.returns
returns c = files_plain
