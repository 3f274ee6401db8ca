use Rattle.std.proofs.Common.{◌≡◌, ◌+◌, ◌≤◌, length, map, vec_len, vec_capacity}
use Rattle.nv_sessions.specs.UnlockedParts.{list_told}
use Rattle.nv_sessions.proofs.unlocked.unlock_lists.Given as goal

abbrev pub decreases-loop-lock : goal.decreases-loop-lock
decreases-loop-lock g l = length l.locks.items

abbrev pub invariant-loop-lock : goal.invariant-loop-lock
invariant-loop-lock g l = record {
  locks : vec_capacity l.locks ≡ vec_capacity l.initial.locks;
  count : vec_len l.locks + vec_len l.rests ≡ vec_len l.initial.locks;
  parts : vec_len l.lists ≡ vec_len l.rests;
  fit : l.rests.items ≡ map list_told l.lists.items;
  part_room : vec_len l.locks + vec_len l.lists ≤ vec_capacity l.lists;
  rest_room : vec_len l.locks + vec_len l.rests ≤ vec_capacity l.rests;
}
