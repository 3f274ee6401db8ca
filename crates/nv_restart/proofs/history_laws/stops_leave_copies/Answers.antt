use Rattle.nv_restart.proofs.SameCopies.{same_copies}
use Rattle.nv_restart.proofs.history_laws.stops_leave_copies.Goals as goal

pub returns : goal.returns
returns c = same_copies
