use Rattle.std.proofs.Common.{◌≡◌, ◌-◌, length}
use Rattle.std.specs.Prelude.{None, vec_capacity}
use Rattle.std.specs.VecDeque.{deque_capacity}
use Rattle.nv_entry.specs.Covered.{part_count, part_total}
use Rattle.nv_log.specs.Chain.{log}
use Rattle.nv_cell.specs.Removal.{flags_of}
use Rattle.nv_cell.specs.Slots.{slot_base, slot_count, slot_total}
use Rattle.nv_cell.proofs.RunFlags.{AllGone, IsPassed}
use Rattle.nv_cell.proofs.closing.close_parts.Given as goal

abbrev pub invariant-loop-i : goal.invariant-loop-i
invariant-loop-i l = record {
  marks : IsPassed part_count part_total l.fn.marks.items l.mark_queue.items (flags_of l.stays l.chain.state) (log l.chain.state) l.i;
  slots : IsPassed slot_count slot_total l.fn.slots.items l.slot_queue.items (flags_of l.stays l.chain.state) (log l.chain.state) l.i;
  none : AllGone (λ b. b ≡ None) slot_count slot_total l.fn.slots.items (flags_of l.stays l.chain.state) (log l.chain.state) l.i;
  fresh : l.fresh ≡ length l.fn.slots.items - slot_base (log l.chain.state) l.i;
  marks_room : deque_capacity l.mark_queue ≡ vec_capacity l.fn.marks;
  slots_room : deque_capacity l.slot_queue ≡ vec_capacity l.fn.slots;
}
