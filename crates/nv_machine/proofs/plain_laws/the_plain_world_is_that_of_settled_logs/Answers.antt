use Rattle.nv_machine.proofs.CopyTrees.{trees_are_plain}
use Rattle.nv_machine.proofs.FitsPlain.{all_sound, plain_nodes}
use Rattle.nv_machine.proofs.plain_laws.the_plain_world_is_that_of_settled_logs.Goals as goal

pub returns-clause-nodes : goal.returns-clause-nodes
returns-clause-nodes c = plain_nodes

pub returns-clause-sound : goal.returns-clause-sound
returns-clause-sound c = all_sound

pub returns-clause-tree : goal.returns-clause-tree
returns-clause-tree c = trees_are_plain
