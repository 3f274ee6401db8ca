use Rattle.std.proofs.Common.{◌≡◌, drop}
use Rattle.std.specs.VecDeque.{deque_capacity}
use Rattle.nv_cell.proofs.closing.drop_slots.Given as goal

abbrev pub invariant-loop-gone : goal.invariant-loop-gone
invariant-loop-gone l = record {
  slots : l.slots.items ≡ drop l._gone l.fn.slots.items;
  room : deque_capacity l.slots ≡ deque_capacity l.fn.slots;
}
