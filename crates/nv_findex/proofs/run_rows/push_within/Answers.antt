use Rattle.std.proofs.Common.{◌∙◌, List, set, ap, arith}
use Rattle.nv_findex.specs.declared.page_run.PageRun.{PageRun}
use Rattle.nv_findex.proofs.RowPushes.{pushed_is}
use Rattle.nv_findex.proofs.run_rows.push_within.Goals as goal

pub returns-clause-items : goal.returns-clause-items
returns-clause-items c =
    let runs = c.args.runs.now in
    ap (λ (l : List PageRun). set l c.args.from c.args.run) c.copy_within.ensures.items
    ∙ pushed_is runs.items c.args.from c.args.to c.args.run c.requires.order (omega (arith, c.requires.within, runs.ok))
