use Rattle.std.proofs.Common.{◌≡◌, ◌+◌, length, map, vec_len, vec_capacity}
use Rattle.nv_sessions.specs.UnlockedParts.{list_told}
use Rattle.nv_sessions.proofs.unlocked.lock_lists.Given as goal

abbrev pub decreases-loop-list : goal.decreases-loop-list
decreases-loop-list g l = length l.lists.items

abbrev pub invariant-loop-list : goal.invariant-loop-list
invariant-loop-list g l = record {
  locks : vec_capacity l.locks ≡ vec_capacity l.initial.locks;
  count : vec_len l.rests + vec_len l.locks ≡ vec_len l.initial.rests;
  parts : vec_len l.lists ≡ vec_len l.rests;
  fit : l.rests.items ≡ map list_told l.lists.items;
}
