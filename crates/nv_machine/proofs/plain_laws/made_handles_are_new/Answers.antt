use Rattle.nv_machine.proofs.NewHandles.{made_node, made_once, no_node_before}
use Rattle.nv_machine.proofs.plain_laws.made_handles_are_new.Goals as goal

pub returns-clause-no_node : goal.returns-clause-no_node
returns-clause-no_node c = made_node

pub returns-clause-start : goal.returns-clause-start
returns-clause-start c = no_node_before

pub returns-clause-never : goal.returns-clause-never
returns-clause-never c = made_once
