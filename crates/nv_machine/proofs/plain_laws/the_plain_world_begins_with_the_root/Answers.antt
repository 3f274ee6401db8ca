use Rattle.std.proofs.Common.{refl}
use Rattle.nv_machine.proofs.PlainStart.{plain_start}
use Rattle.nv_machine.proofs.plain_laws.the_plain_world_begins_with_the_root.Goals as goal

pub returns-clause-nodes : goal.returns-clause-nodes
returns-clause-nodes c = plain_start

pub returns-clause-commit : goal.returns-clause-commit
returns-clause-commit c = λ g. refl

pub returns-clause-epoch : goal.returns-clause-epoch
returns-clause-epoch c = λ g. refl

pub returns-clause-copies : goal.returns-clause-copies
returns-clause-copies c = λ g. refl
