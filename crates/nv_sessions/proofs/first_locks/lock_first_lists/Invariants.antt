use Rattle.std.proofs.Common.{◌≡◌, ◌+◌, length, vec_len, vec_capacity}
use Rattle.nv_sessions.specs.Opened.{list_blocks}
use Rattle.nv_sessions.proofs.first_locks.lock_first_lists.Given as goal

abbrev pub decreases-loop-list : goal.decreases-loop-list
decreases-loop-list g l = length l.lists.items

abbrev pub invariant-loop-list : goal.invariant-loop-list
invariant-loop-list g l = record {
  count : vec_len l.into + vec_len l.lists ≡ vec_len l.initial.lists;
  parts : l.rest.parts + vec_len l.into ≡ l.initial.rest.parts;
  nothing : l.rest.amount ≡ 0;
  total : l.book.total + list_blocks l.lists.items ≡ l.initial.book.total + list_blocks l.initial.lists.items;
  room : vec_capacity l.into ≡ vec_capacity l.initial.into;
}
