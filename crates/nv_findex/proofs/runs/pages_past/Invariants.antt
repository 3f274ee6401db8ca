use Rattle.std.proofs.Common.{◌≡◌, ◌+◌, drop}
use Rattle.nv_findex.specs.Runs.{pages_past}
use Rattle.nv_findex.proofs.runs.pages_past.Given as goal

abbrev pub invariant-loop-at : goal.invariant-loop-at
invariant-loop-at l = record {
  count : l.count + pages_past l.page (drop l.at l.runs.items) ≡ pages_past l.page (drop l.fn.from l.runs.items);
}
