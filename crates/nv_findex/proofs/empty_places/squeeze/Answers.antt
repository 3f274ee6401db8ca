use Rattle.std.proofs.Common.{◌∙◌, sym, arith}
use Rattle.std.proofs.lemmas.List.Filters.{FiltersInPlace-more_no, FiltersInPlace-more_set}
use Rattle.nv_findex.proofs.empty_places.squeeze.Goals as goal
use Rattle.nv_findex.proofs.empty_places.squeeze.Goals.{then-has_page, else-has_page}

pub loop-at-preserved : goal.loop-at-preserved
loop-at-preserved c =
    let before = c.loop-at.invariant in
    let read = c.at-run.ensures in
    elim c.if-has_page.branch [
      | then-has_page w ↦
          let put = FiltersInPlace-more_set before.filters (omega arith) (sym c.has_page.ensures ∙ w.if-has_page.true) read in
          rw (w.runs-is, w.kept-is) record {
            filters = rw w.replace.ensures.items put;
            capacity = w.replace.ensures.capacity ∙ before.capacity;
          }
      | else-has_page w ↦
          rw (w.runs-is, w.kept-is) record {
            filters = FiltersInPlace-more_no before.filters (omega arith) (sym c.has_page.ensures ∙ w.if-has_page.false) read;
            capacity = before.capacity;
          }
    ]
