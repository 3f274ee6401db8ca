use Rattle.std.proofs.Common.{rules}
use Rattle.nv_script.proofs.Plain.{printed-plain, read-plain}
use Rattle.nv_script.proofs.word.push_plain.Goals as goal

pub returns-clause-printed : goal.returns-clause-printed
returns-clause-printed c =
    let whole = printed-plain c.args.bytes.now c.args.out.now.items c.plain_count-count.result c.plain_count-count.ensures.plain in
    search rules

pub returns-clause-read : goal.returns-clause-read
returns-clause-read c =
    let whole = read-plain c.args.bytes.now c.args.out.now.items c.plain_count-count.result c.plain_count-count.ensures.plain in
    search rules
