use Rattle.std.proofs.Common.{◌≡◌, ◌+◌, ◌≤◌, ◌++◌, length, map, vec_capacity, vec_len}
use Rattle.nv_audit.specs.Records.{states_of}
use Rattle.nv_restart.specs.Restarted.{slot_image}
use Rattle.nv_core.proofs.stop.put_slots.Given as goal

abbrev pub invariant-loop-cell : goal.invariant-loop-cell
invariant-loop-cell l = record {
  told : l.slots.items ++ map slot_image (states_of l.cells.items) ≡ l.initial.slots.items ++ map slot_image (states_of l.initial.cells.items);
  room : vec_len l.slots + length l.cells.items ≤ vec_capacity l.slots;
}

abbrev pub decreases-loop-cell : goal.decreases-loop-cell
decreases-loop-cell l = length l.cells.items
