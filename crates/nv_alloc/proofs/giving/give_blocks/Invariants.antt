use Rattle.std.proofs.Common.{◌≡◌, ◌≤◌, ◌+◌}
use Rattle.std.specs.VecDeque.{deque_len, deque_capacity}
use Rattle.nv_alloc.proofs.GivingLemmas.{IsUnderway}
use Rattle.nv_alloc.proofs.giving.give_blocks.Given as goal

abbrev pub invariant-loop : goal.invariant-loop
invariant-loop l = record {
  moved : IsUnderway l.initial.blocks.items l.initial.list l.list l.blocks.items l.counter;
  capacity : deque_capacity l.blocks ≡ deque_capacity l.initial.blocks;
  left : l.end ≤ l.counter + deque_len l.blocks;
}
