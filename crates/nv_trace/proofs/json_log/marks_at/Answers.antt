use Rattle.std.proofs.Common.{arith, sym}
use Rattle.nv_trace.proofs.JsonParts.{past_tail}
use Rattle.nv_trace.proofs.json_log.marks_at.Goals as goal

pub returns : goal.returns
returns c =
    let past = c.if-place-tail.false in
    sym (past_tail c.args.cell.now.state c.args.place (omega (arith, past, c.tail.ensures)))
