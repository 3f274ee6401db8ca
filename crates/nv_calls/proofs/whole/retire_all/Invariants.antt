use Rattle.std.proofs.Common.{◌≡◌}
use Rattle.nv_calls.specs.PlanByPlan.{RetiresTo}
use Rattle.nv_calls.proofs.whole.retire_all.Given as goal

abbrev pub invariant-loop-plan : goal.invariant-loop-plan
invariant-loop-plan g l = record {
  way : RetiresTo l._plan (g.C.Cells.cells l.fn.cells) l.fn.commit l.fn.book (g.C.Cells.cells l.cells) l.commit l.book;
  frame : g.C.Cells.frame l.cells ≡ g.C.Cells.frame l.fn.cells;
}
