use Rattle.std.proofs.Common.{◌≡◌, drop}
use Rattle.std.specs.VecDeque.{deque_capacity}
use Rattle.nv_cell.proofs.closing.drop_marks.Given as goal

abbrev pub invariant-loop-gone : goal.invariant-loop-gone
invariant-loop-gone l = record {
  marks : l.marks.items ≡ drop l._gone l.fn.marks.items;
  room : deque_capacity l.marks ≡ deque_capacity l.fn.marks;
}
