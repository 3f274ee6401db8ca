use Rattle.std.proofs.Common.{◌≤◌, ◌-◌, drop, length}
use Rattle.nv_findex.specs.Runs.{SkipsEmpty}
use Rattle.nv_findex.proofs.empty_places.behind_empty.Given as goal

abbrev pub invariant-empty : goal.invariant-empty
invariant-empty l = record {
  order : l.fn.from ≤ l.end;
  within : l.end ≤ length l.runs.items;
  skips : SkipsEmpty (drop l.fn.from l.runs.items) (drop l.end l.runs.items);
}

abbrev pub decreases-empty : goal.decreases-empty
decreases-empty l = length l.runs.items - l.end
