use Rattle.std.proofs.Common.{◌∙◌, ap, arith, set}
use Rattle.nv_findex.specs.declared.page_run.PageRun.{PageRun}
use Rattle.nv_findex.specs.Runs.{emptied}
use Rattle.nv_findex.proofs.Moves.{set_next}
use Rattle.nv_findex.proofs.empty_places.vacate.Goals as goal

pub loop-at-preserved : goal.loop-at-preserved
loop-at-preserved c =
    let before = c.loop-at.invariant in
    record {
      items = c.replace.ensures.items ∙ ap (λ (r : PageRun). set c.loop-at.runs.items c.loop-at.at r) c.emptied.ensures
          ∙ set_next c.args.runs.now.items c.loop-at.runs.items c.args.from c.loop-at.at (emptied c.args.run.now) before.items (omega arith) (omega arith);
      capacity = c.replace.ensures.capacity ∙ before.capacity;
    }
