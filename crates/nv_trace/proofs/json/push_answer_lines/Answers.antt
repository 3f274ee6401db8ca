use Rattle.std.proofs.Common.{rules}
use Rattle.nv_trace.proofs.AnswerLines.{lines-end, lines-more, on_ok}
use Rattle.nv_trace.proofs.json.push_answer_lines.Goals as goal

pub loop-end-preserved : goal.loop-end-preserved
loop-end-preserved c =
    let more = lines-more c.args.number c.loop-end.rest.now c.loop-end.out.items c.push_answer_line.new.out.items _ c.in-Some.end
    c.memchr.result c.memchr.ensures c.in-Some.is c.in_ok-push_answer_line.ensures c.loop-end.invariant.told in
    search (rules, more)

pub returns : goal.returns
returns c =
    on_ok c.push_answer_line-2.result
    (λ told. lines-end c.args.number c.loop-end.rest.now c.loop-end.out.items c.push_answer_line-2.new.out.items _ c.memchr.result
    c.memchr.ensures c.in_default.is told c.loop-end.invariant.told) c.push_answer_line-2.ensures
