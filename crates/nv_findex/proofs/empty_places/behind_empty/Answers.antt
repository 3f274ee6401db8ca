use Rattle.std.proofs.Common.{◌∙◌, sym, arith, drop}
use Rattle.nv_findex.proofs.Places.{skips_more, skips_none}
use Rattle.nv_findex.proofs.empty_places.behind_empty.Goals as goal

pub empty-init : goal.empty-init
empty-init c = record { order = omega arith; within = c.requires; skips = skips_none (drop c.args.from c.args.runs.now.items) }

pub empty-preserved : goal.empty-preserved
empty-preserved c =
    let before = c.empty.invariant in
    let rs = c.args.runs.now.items in
    record {
      order = omega (arith, before.order);
      within = omega arith;
      skips = skips_more (drop c.args.from rs) rs c.empty.end c.at.result before.skips (omega arith) c.at.ensures (sym c.has_page.ensures ∙ c.if-has_page.false);
    }
