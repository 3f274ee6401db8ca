use Rattle.std.proofs.Common.{◌≡◌, ◌*◌, ◌≤◌, take}
use Rattle.std.specs.List.{sum_by}
use Rattle.nv_cell.specs.Weights.{page_runs_needed}
use Rattle.nv_cell.proofs.needs.write_count.Given as goal

abbrev pub invariant-loop-item : goal.invariant-loop-item
invariant-loop-item l = record {
  runs : 2 * l.count ≡ sum_by page_runs_needed (take l.item-index l.items);
  few : l.count ≤ l.item-index;
}
