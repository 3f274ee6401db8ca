use Rattle.std.proofs.Common.{◌≡◌, ℕ, ◌<◌}
use Rattle.nv_cell.specs.Room.{IsReadyToAppend}
use Rattle.nv_calls.specs.Cells.{value_at}
use Rattle.nv_calls.specs.Prepared.{HaveNoLessRoom}
use Rattle.nv_calls.specs.Ready.{plan_at}
use Rattle.nv_calls.proofs.prepare.ready_cells.Given as goal

abbrev pub invariant-loop-plan : goal.invariant-loop-plan
invariant-loop-plan g l =
    let now = g.C.Cells.cells l.cells in
    record {
      more : HaveNoLessRoom (g.C.Cells.cells l.fn.cells) now;
      ready : (j : ℕ) → j < l.plan-index → IsReadyToAppend (plan_at l.plans j).items (value_at now (plan_at l.plans j).at);
      frame : g.C.Cells.frame l.cells ≡ g.C.Cells.frame l.fn.cells;
    }
