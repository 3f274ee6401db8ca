use Rattle.std.proofs.Common.{sym, ◌∙◌}
use Rattle.nv_calls.proofs.NoPages.{none_by_names}
use Rattle.nv_calls.proofs.log_pages.takes_none.Goals as goal

pub returns-then-goes_by_names : goal.returns-then-goes_by_names
returns-then-goes_by_names g c = λ hand all.
    none_by_names (g.C.Cells.cells c.args.cells.now) hand c.args.update.now (sym c.goes_by_names.ensures ∙ c.if-goes_by_names.true)
    (λ k lt. c.have_room.ensures k all lt)
