use Rattle.std.proofs.Common.{◌≡◌, ◌-◌, ◌++◌, take, drop, replicate}
use Rattle.nv_findex.specs.Runs.{emptied}
use Rattle.nv_findex.proofs.empty_places.vacate.Given as goal

abbrev pub invariant-loop-at : goal.invariant-loop-at
invariant-loop-at l = record {
  items : l.runs.items ≡ take l.fn.from l.fn.runs.items ++ (replicate (l.at - l.fn.from) (emptied l.run) ++ drop l.at l.fn.runs.items);
  capacity : l.runs.capacity ≡ l.fn.runs.capacity;
}
