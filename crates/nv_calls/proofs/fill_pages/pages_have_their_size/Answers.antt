use Rattle.std.proofs.Common.{ap, sym, ◌∙◌}
use Rattle.std.specs.Prelude.{option_map}
use Rattle.nv_calls.proofs.FillPages.{page_of_cell}
use Rattle.nv_calls.proofs.fill_pages.pages_have_their_size.Goals as goal

pub returns-in-Some : goal.returns-in-Some
returns-in-Some g c = λ page size all.
    page_of_cell size (g.C.Cells.cells c.args.nodes.now.cells.now) c.args.file.now page c.in-Some.cell.now
    (sym (ap (option_map (λ cell. cell.now)) c.in-Some.is) ∙ c.cell_of.ensures) c.holds_together.ensures all
