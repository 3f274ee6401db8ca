use Rattle.std.proofs.Common.{◌≡◌, ◌≤◌, None, replicate, vec_len, vec_capacity}
use Rattle.nv_alloc.proofs.free_list.empty_slots.Given as goal

abbrev pub invariant-loop-slot : goal.invariant-loop-slot
invariant-loop-slot l = record {
  items : l.slots.items ≡ replicate l._slot None;
  len : vec_len l.slots ≡ l._slot;
  capacity : l.count ≤ vec_capacity l.slots;
}
