use Rattle.std.proofs.Common.{◌≡◌, ◌≤◌, length, map, take, vec_capacity, vec_len}
use Rattle.nv_core.specs.Restarts.{shown_cell}
use Rattle.nv_core.proofs.restart.seen_of.Given as goal

abbrev pub invariant-loop-cell : goal.invariant-loop-cell
invariant-loop-cell l = record {
  items : l.slots.items ≡ map shown_cell (take l.cell-index l.cells);
  len : vec_len l.slots ≡ l.cell-index;
  room : length l.cells ≤ vec_capacity l.slots;
}
