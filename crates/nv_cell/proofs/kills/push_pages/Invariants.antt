use Rattle.std.proofs.Common.{◌≤◌, ◌-◌}
use Rattle.nv_cell.specs.Numbers.{Pushes, is_page_in}
use Rattle.nv_cell.specs.Weights.{present_between}
use Rattle.nv_cell.proofs.kills.push_pages.Given as goal

abbrev pub invariant-runs : goal.invariant-runs
invariant-runs l = record {
  begin : l.from ≤ l.next;
  high : l.next ≤ l.to;
  pushed : Pushes l.chain.state.entries l.index (is_page_in l.from l.next) (present_between l.index l.from l.next) l.fn.killed l.killed;
}

abbrev pub decreases-runs : goal.decreases-runs
decreases-runs l = l.to - l.next
