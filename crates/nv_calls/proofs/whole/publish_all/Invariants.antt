use Rattle.std.proofs.Common.{◌≡◌}
use Rattle.nv_calls.specs.PlanByPlan.{PublishesTo}
use Rattle.nv_calls.proofs.whole.publish_all.Given as goal

abbrev pub invariant-loop-plan : goal.invariant-loop-plan
invariant-loop-plan g l = record {
  way : PublishesTo l._plan (g.C.Cells.cells l.fn.cells) l.fn.commit (g.C.Cells.cells l.cells) l.commit;
  frame : g.C.Cells.frame l.cells ≡ g.C.Cells.frame l.fn.cells;
}
