use Rattle.std.proofs.Common.{inr}
use Rattle.nv_sessions.proofs.OtherRefusals.{exits}
use Rattle.nv_sessions.proofs.snapshots.note_once.Goals as goal

pub returns-in_err-make_marks-clause-err : goal.returns-in_err-make_marks-clause-err
returns-in_err-make_marks-clause-err c = exits _ c.from_residual.result _ c.from_residual.ensures.1 (inr c.in_err-make_marks.ensures.err)
