use Rattle.nv_machine.proofs.LogsKeptRuns.{events_kept, nodes_stay}
use Rattle.nv_machine.proofs.StartParts.{first_kept}
use Rattle.nv_machine.proofs.plain_laws.only_commits_change_nodes.Goals as goal

pub returns-clause-start : goal.returns-clause-start
returns-clause-start c = first_kept

pub returns-clause-stays : goal.returns-clause-stays
returns-clause-stays c = events_kept

pub returns-clause-nodes : goal.returns-clause-nodes
returns-clause-nodes c = nodes_stay
