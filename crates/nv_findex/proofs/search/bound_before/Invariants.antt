use Rattle.std.proofs.Common.{◌<◌, ◌≤◌}
use Rattle.nv_findex.proofs.search.bound_before.Given as goal

abbrev pub invariant-down : goal.invariant-down
invariant-down l = record {
  order : l.place ≤ l.fn.from;
  step : 0 < l.step;
}

abbrev pub decreases-down : goal.decreases-down
decreases-down l = l.place
