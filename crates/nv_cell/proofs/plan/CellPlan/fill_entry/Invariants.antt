use Rattle.std.proofs.Common.{◌≡◌, ◌-◌, ◌≤◌, map}
use Rattle.std.specs.Prelude.{vec_capacity}
use Rattle.std.specs.List.{range_with_len}
use Rattle.nv_entry.specs.Covered.{part_count}
use Rattle.nv_cell.specs.Filling.{AreGiven, part_wants}
use Rattle.nv_cell.proofs.plan.CellPlan.fill_entry.Given as goal

abbrev pub invariant-loop-place : goal.invariant-loop-place
invariant-loop-place l = record {
  low : 1 ≤ l.place;
  few : l.place - 1 ≤ part_count l.entry - 1;
  given : AreGiven l.geometry.numbers
      (map (part_wants l.geometry.numbers.block l.fn.self.marks.marks.items l.first l.entry) (range_with_len 1 (l.place - 1)))
      l.fn.lists.items l.lists.items l.fn.self.blocks.items l.self.blocks.items;
  capacity : vec_capacity l.self.blocks ≡ vec_capacity l.fn.self.blocks;
  index : l.self.index ≡ l.fn.self.index;
  marks : l.self.marks ≡ l.fn.self.marks;
}
