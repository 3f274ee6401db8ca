use Rattle.std.proofs.Common.{◌≡◌, ◌+◌, ◌≤◌, ◌++◌, length, map, reverse, vec_capacity}
use Rattle.std.specs.Prelude.{All}
use Rattle.nv_cell.specs.declared.bare.BareCell.{BareCell}
use Rattle.nv_mount.specs.Slots.{CanOpenAll, closed}
use Rattle.nv_mount.proofs.slots.open_slots.Given as goal

abbrev pub invariant-loop-slot : goal.invariant-loop-slot
invariant-loop-slot l = record {
  can : CanOpenAll l.page l.slots.items;
  told : l.slots.items ++ map closed (reverse l.bare.items) ≡ l.initial.slots.items;
  pages : All (λ (cell : BareCell). cell.chain.state.page ≡ l.page) l.bare.items;
  capacity : vec_capacity l.slots ≡ vec_capacity l.initial.slots;
  fits : length l.initial.slots.items ≤ vec_capacity l.slots;
  room : length l.initial.slots.items ≤ vec_capacity l.bare;
  count : length l.slots.items + length l.bare.items ≡ length l.initial.slots.items;
}

abbrev pub decreases-loop-slot : goal.decreases-loop-slot
decreases-loop-slot l = length l.slots.items
