use Rattle.std.proofs.Common.{◌≡◌, ◌<◌, ℕ, get_or, subst, arith}
use Rattle.nv_findex.specs.declared.page_run.PageRun.{PageRun}
use Rattle.nv_findex.proofs.Borders.{border_is}
use Rattle.nv_findex.proofs.search.ended_in.Goals as goal

pub returns-clause-border : goal.returns-clause-border
returns-clause-border c =
    let rs = c.args.runs.now.items in
    let same : c.search.high ≡ c.search.low = omega arith in
    border_is c.args.page c.search.low rs c.requires.places (omega arith) c.search.invariant.front
    (λ (d : PageRun) lt. subst (λ (n : ℕ). c.args.page < (get_or rs n d).end) same (c.search.invariant.behind d (omega arith)))
