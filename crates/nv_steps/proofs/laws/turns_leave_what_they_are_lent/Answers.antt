use Rattle.nv_steps.proofs.LeftParts.{ends_framed, moves_framed, parts_left}
use Rattle.nv_steps.proofs.laws.turns_leave_what_they_are_lent.Goals as goal

pub returns-clause-moves : goal.returns-clause-moves
returns-clause-moves c = moves_framed

pub returns-clause-ends : goal.returns-clause-ends
returns-clause-ends c = ends_framed

pub returns-clause-parts : goal.returns-clause-parts
returns-clause-parts c = parts_left
