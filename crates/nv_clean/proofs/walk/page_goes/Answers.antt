use Rattle.std.proofs.Common.{◌≡◌, ◌∙◌, ◌==◌, ap, false, sym}
use Rattle.nv_cell.specs.declared.tally.LogPageCounts.{LogPageCounts}
use Rattle.nv_clean.proofs.Counted.{is_some, order, valid_stays}
use Rattle.nv_clean.proofs.walk.page_goes.Goals as goal

pub entries_go-requires-clause-order : goal.entries_go-requires-clause-order
entries_go-requires-clause-order c =
    order c.args.cell.now.state c.holds_together.ensures c.args.k c.requires.page c.args.from c.args.to c.requires.from c.requires.to

pub returns-else-counts-eq0 : goal.returns-else-counts-eq0
returns-else-counts-eq0 c = λ before covers.
    let cell = c.args.cell.now.state in
    let some : (c.counts.result.valid == 0) ≡ false = is_some c.counts.result.valid c.if-counts-eq0.false in
    some
    ∙ valid_stays cell c.holds_together.ensures c.args.k c.requires.page c.args.from c.args.to before c.requires.from c.requires.to
    (ap (λ (counts : LogPageCounts). counts.valid == 0) (sym c.counts.ensures) ∙ some)
