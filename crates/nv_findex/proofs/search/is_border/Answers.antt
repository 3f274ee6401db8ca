use Rattle.std.proofs.Common.{◌-◌, ap, arith, refl}
use Rattle.nv_findex.specs.declared.page_run.PageRun.{PageRun}
use Rattle.nv_findex.proofs.Borders.{border_is, read_end}
use Rattle.nv_findex.proofs.search.is_border.Goals as goal
use Rattle.nv_findex.proofs.search.is_border.Goals.{else-at-gt0-via-then-at-gt0+else-page-at, else-at-gt0-via-else-at-gt0, else-at-len-via-then-at-len+else-at-page, else-at-len-via-else-at-len}

pub returns : goal.returns
returns c = λ true.
    let rs = c.args.runs.now.items in
    border_is c.args.page c.args.at rs c.requires.places c.requires.within
    (λ k d e. elim c.else-at-gt0.branch [
      | else-at-gt0-via-then-at-gt0+else-page-at w ↦
          omega (arith, ap (λ (x : PageRun). x.end) w.at.ensures, read_end rs (c.args.at - 1) k d w.at.result (omega arith) (omega arith))
      | else-at-gt0-via-else-at-gt0 w ↦ absurd (omega arith)
    ])
    (λ d lt. elim c.else-at-len.branch [
      | else-at-len-via-then-at-len+else-at-page w ↦
          omega (arith, ap (λ (x : PageRun). x.end) w.at-then-at-len.ensures, read_end rs c.args.at c.args.at d w.at-then-at-len.result refl lt)
      | else-at-len-via-else-at-len w ↦ absurd (omega arith)
    ])
