use Rattle.nv_mount_answers.proofs.OneToOne.{one_to_one}
use Rattle.nv_mount_answers.proofs.nodes.nodes_and_handles_are_one_to_one.Goals as goal

pub returns : goal.returns
returns c = one_to_one
