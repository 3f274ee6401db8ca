use Rattle.std.proofs.Common.{◌<◌, ◌≤◌, ◌-◌, length}
use Rattle.nv_findex.proofs.search.bound_behind.Given as goal

abbrev pub invariant-up : goal.invariant-up
invariant-up l = record {
  order : l.fn.from ≤ l.place;
  within : l.place ≤ length l.runs.items;
  step : 0 < l.step;
}

abbrev pub decreases-up : goal.decreases-up
decreases-up l = length l.runs.items - l.place
