use Rattle.std.proofs.Common.{◌≡◌, ◌+◌, ◌≤◌, ◌++◌, length, map, reverse, vec_capacity}
use Rattle.nv_mount.specs.Slots.{closed}
use Rattle.nv_mount.proofs.slots.close_slots.Given as goal

abbrev pub invariant-loop-cell : goal.invariant-loop-cell
invariant-loop-cell l = record {
  told : l.slots.items ++ map closed (reverse l.bare.items) ≡ l.initial.slots.items ++ map closed (reverse l.initial.bare.items);
  capacity : vec_capacity l.slots ≡ vec_capacity l.initial.slots;
  room : length l.slots.items + length l.bare.items ≤ vec_capacity l.slots;
}

abbrev pub decreases-loop-cell : goal.decreases-loop-cell
decreases-loop-cell l = length l.bare.items
