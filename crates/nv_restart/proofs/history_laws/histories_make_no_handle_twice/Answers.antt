use Rattle.nv_restart.proofs.UsedHandles.{made_once}
use Rattle.nv_restart.proofs.history_laws.histories_make_no_handle_twice.Goals as goal

pub returns : goal.returns
returns c = made_once
