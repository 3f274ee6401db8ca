use Rattle.nv_machine.proofs.EveryWorld.{reached}
use Rattle.nv_machine.proofs.Reached.{reached_nodes}
use Rattle.nv_machine.proofs.plain_laws.starts_lead_where_laws_hold.Goals as goal

pub returns-clause-reached : goal.returns-clause-reached
returns-clause-reached c = reached

pub returns-clause-nodes : goal.returns-clause-nodes
returns-clause-nodes c = reached_nodes
