use Rattle.nv_cell.proofs.MarksKeep.{are_marks}
use Rattle.nv_cell.proofs.clean_laws.marks_are_a_retention.Goals as goal

pub returns : goal.returns
returns c = are_marks
