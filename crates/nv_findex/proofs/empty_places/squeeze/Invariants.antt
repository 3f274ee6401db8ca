use Rattle.std.proofs.Common.{◌≡◌}
use Rattle.std.proofs.lemmas.List.Filters.{FiltersInPlace}
use Rattle.nv_findex.specs.Runs.{has_page}
use Rattle.nv_findex.proofs.empty_places.squeeze.Given as goal

abbrev pub invariant-loop-at : goal.invariant-loop-at
invariant-loop-at l = record {
  filters : FiltersInPlace has_page l.fn.runs.items l.runs.items l.kept l.at;
  capacity : l.runs.capacity ≡ l.fn.runs.capacity;
}
