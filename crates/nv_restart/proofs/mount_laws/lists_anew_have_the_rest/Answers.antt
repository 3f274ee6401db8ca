use Rattle.nv_restart.proofs.FreeLists.{each_once}
use Rattle.nv_restart.proofs.mount_laws.lists_anew_have_the_rest.Goals as goal

pub returns : goal.returns
returns c = each_once
