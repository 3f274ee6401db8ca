use Rattle.nv_mount_laws.proofs.PutBack.{rename_refused}
use Rattle.nv_mount_laws.proofs.laws.refused_renames_have_moved_nothing.Goals as goal

pub returns : goal.returns
returns c = rename_refused
