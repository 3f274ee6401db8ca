use Rattle.nv_cell.specs.Plan.{IsScanned}
use Rattle.nv_cell.proofs.plan.CellPlan.new.Given as goal

abbrev pub invariant-loop-t : goal.invariant-loop-t
invariant-loop-t l = IsScanned l.block l.living l.chain l.tail l.t l.scan
