use Rattle.std.proofs.Common.{◌≡◌, ◌∙◌, ◌+◌, ap, arith, drop, take}
use Rattle.nv_findex.proofs.Moves.{take_insert, drop_insert}
use Rattle.nv_findex.proofs.put.put_one.Goals as goal

pub returns-clause-front : goal.returns-clause-front
returns-clause-front c =
    ap (take (c.args.from + 1)) c.insert.ensures.items ∙ take_insert c.args.runs.now.items c.args.from c.args.one (omega arith)

pub returns-clause-behind : goal.returns-clause-behind
returns-clause-behind c =
    let same : c.args.from ≡ c.args.to = omega arith in
    ap (drop (c.args.to + 1)) c.insert.ensures.items
    ∙ drop_insert c.args.runs.now.items c.args.from (c.args.to + 1) c.args.one (omega arith) (omega arith)
    ∙ ap (λ n. drop n c.args.runs.now.items) same
