use Rattle.nv_restart.proofs.Start.{starts}
use Rattle.nv_restart.proofs.mount_laws.faultless_images_mount_to_a_start.Goals as goal

pub returns : goal.returns
returns c = starts
