use Rattle.std.proofs.Common.{◌<◌, length, set, ℕ, Option, Some, None, arith, ap, sym, subst, ◌∙◌}
use Rattle.std.specs.Prelude.{unwrap_or}
use Rattle.std.proofs.lemmas.List.{get_or_read, length-set}
use Rattle.nv_reader.specs.declared.pages.Writer.{Writer}
use Rattle.nv_reader.proofs.Skips.{HasFilled, fresh, goes_on}
use Rattle.nv_reader.proofs.pages.fill.Goals as goal

pub loop-page-preserved : goal.loop-page-preserved
loop-page-preserved c =
    let first = c.args.first in
    let end = c.min-end.result in
    let page = c.loop-page.page in
    let now = c.loop-page.writers in
    let held = c.unwrap_or-held.result in
    let within : page < length now = omega (arith, c.loop-page-test.true, c.min-end.ensures, c.requires.cut, c.loop-page.auto.writers) in
    let is = c.unwrap_or-held.ensures
    ∙ ap (λ (o : Option Writer). unwrap_or o (fresh c.args.entry.now page))
    (get_or_read now page c.index-writers-page.result within c.index-writers-page.is None) in
    let on = goes_on c.args.entry.now first end page c.args.writers.now now held c.requires.skips c.loop-page.invariant.filled
    c.loop-page-test.true within is in
    record {
      len = length-set now page _ ∙ c.loop-page.auto.writers;
      filled = subst
          (λ (n : ℕ). HasFilled c.args.entry.now first end held.past c.args.writers.now (set now page (Some (record held { past = n }))))
          (sym c.max.ensures) on.filled;
    }
