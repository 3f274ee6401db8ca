use Rattle.std.proofs.Common.{arith, replicate}
use Rattle.nv_calls.specs.calls.Write.{text_refusal}
use Rattle.nv_calls.proofs.TextLengths.{blank_blocks, blank_refusal}
use Rattle.nv_calls.proofs.calls.write.check.Goals as goal

pub returns-clause-tests : goal.returns-clause-tests
returns-clause-tests g c =
    let some = blank_refusal c.args.block c.args.offset c.args.count (omega (arith, c.if-count-eq0.false)) in
    let file = c.in_ok-want_file.ensures (text_refusal c.args.block c.args.offset (replicate c.args.count 0)) in
    let kind = c.kind.ensures in
    let count = c.check_count.ensures.tests in
    cc

pub returns-clause-wanted : goal.returns-clause-wanted
returns-clause-wanted g c =
    rw (blank_blocks c.args.block c.args.offset c.args.count (omega (arith, c.if-count-eq0.false))) c.check_count.ensures.wanted
