use Rattle.std.proofs.Common.{◌≡◌, ℕ, ◌<◌, ◌≤◌, ◌++◌, drop, length}
use Rattle.nv_calls.specs.Cells.{ino_at}
use Rattle.nv_calls.specs.Prepared.{cell_plans}
use Rattle.nv_calls.specs.Slots.{items_for}
use Rattle.nv_calls.proofs.prepare.cell_plans.Given as goal

abbrev pub invariant-loop-at : goal.invariant-loop-at
invariant-loop-at g l =
    let cells = g.C.Cells.cells l.cells in
    record {
      plans : l.plans.items ++ cell_plans l.fn.planned l.at (drop l.at cells) ≡ cell_plans l.fn.planned 0 cells;
      left : (k : ℕ) → l.at ≤ k → k < length cells → items_for l.left (ino_at cells k) ≡ items_for l.fn.planned
          (ino_at cells k);
    }
