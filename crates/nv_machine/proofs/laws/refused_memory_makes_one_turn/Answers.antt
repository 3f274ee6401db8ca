use Rattle.nv_machine.proofs.RefusedMemory.{denied_alike, ungrown}
use Rattle.nv_machine.proofs.GrantedMemory.{granted_none}
use Rattle.nv_machine.proofs.laws.refused_memory_makes_one_turn.Goals as goal

pub returns-clause-refused : goal.returns-clause-refused
returns-clause-refused c = λ block actor s h r. denied_alike r.next block actor s h r

pub returns-clause-others : goal.returns-clause-others
returns-clause-others c = λ block actor s h r. ungrown r.next block actor s h r

pub returns-clause-granted : goal.returns-clause-granted
returns-clause-granted c = λ block actor s h r. granted_none r.next block actor s h r
