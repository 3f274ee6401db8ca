use Rattle.nv_restart.proofs.Cells.{cell_is}
use Rattle.nv_restart.proofs.mount_laws.slots_mount_to_cells.Goals as goal

pub returns : goal.returns
returns c = cell_is
