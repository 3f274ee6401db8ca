use Rattle.nv_machine.proofs.CommitEffects.{point_effect, point_sound}
use Rattle.nv_machine.proofs.plain_laws.a_commit_point_has_its_effect.Goals as goal

pub returns-clause-nodes : goal.returns-clause-nodes
returns-clause-nodes c = point_effect

pub returns-clause-sound : goal.returns-clause-sound
returns-clause-sound c = point_sound
