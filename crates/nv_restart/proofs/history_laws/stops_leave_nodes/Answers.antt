use Rattle.nv_restart.proofs.SameNodes.{same_nodes}
use Rattle.nv_restart.proofs.history_laws.stops_leave_nodes.Goals as goal

pub returns : goal.returns
returns c = same_nodes
