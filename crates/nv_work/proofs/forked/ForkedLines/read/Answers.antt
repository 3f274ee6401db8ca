use Rattle.std.proofs.Common.{◌≡◌, ◌∙◌, ap, sym}
use Rattle.nv_work.specs.Taken.{lists_of}
use Rattle.nv_work.specs.Threads.{with_calls}
use Rattle.nv_work.proofs.Crews.{calls_read, calls_skipped}
use Rattle.nv_work.proofs.forked.ForkedLines.read.Goals as goal

pub returns-then-is_skipped-clause-lists : goal.returns-then-is_skipped-clause-lists
returns-then-is_skipped-clause-lists c =
    ap (with_calls (lists_of c.args.self.now)) (sym (calls_skipped c.args.line.now (sym c.is_skipped.ensures ∙ c.if-is_skipped.true)))

pub returns-clause-lists : goal.returns-clause-lists
returns-clause-lists c =
    c.in_ok-add.ensures.lists
    ∙ ap (with_calls (lists_of c.args.self.now)) (sym (calls_read c.args.line.now c.in_ok-call.call
    (sym c.is_skipped.ensures ∙ c.if-is_skipped.false) c.in_ok-call.ensures))
