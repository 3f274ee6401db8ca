use Rattle.std.proofs.Common.{◌≡◌, take}
use Rattle.std.specs.Prelude.{vec_capacity}
use Rattle.nv_cell.specs.Filling.{AreGiven, log_wants}
use Rattle.nv_cell.specs.Numbers.{part_base}
use Rattle.nv_cell.proofs.plan.CellPlan.fill.Given as goal

abbrev pub invariant-loop-t : goal.invariant-loop-t
invariant-loop-t l = record {
  first : l.first ≡ part_base l.chain.state.entries l.t;
  given : AreGiven l.geometry.numbers
      (log_wants l.geometry.numbers.block l.fn.self.marks.marks.items 0 (take l.t l.chain.state.entries))
      l.fn.lists.items l.lists.items l.fn.self.blocks.items l.self.blocks.items;
  capacity : vec_capacity l.self.blocks ≡ vec_capacity l.fn.self.blocks;
  index : l.self.index ≡ l.fn.self.index;
  marks : l.self.marks ≡ l.fn.self.marks;
}
