use Rattle.std.proofs.Common.{◌≡◌, ◌+◌, ◌≤◌, map, vec_len, vec_capacity}
use Rattle.nv_sessions.specs.UnlockedParts.{slot_of, rest_told, cell_told}
use Rattle.nv_sessions.proofs.Slots.{falling}
use Rattle.nv_sessions.proofs.unlocked.unlock_cells.Given as goal

abbrev pub decreases-loop-slot : goal.decreases-loop-slot
decreases-loop-slot g l = vec_len l.locks.locks

abbrev pub invariant-loop-slot : goal.invariant-loop-slot
invariant-loop-slot g l = record {
  locks : vec_capacity l.locks.locks ≡ vec_capacity l.initial.locks.locks;
  count : vec_len l.locks.locks + vec_len l.rests ≡ vec_len l.initial.locks.locks;
  parts : vec_len l.cells ≡ vec_len l.rests;
  fit : map rest_told l.rests.items ≡ map cell_told l.cells.items;
  slots : map slot_of l.rests.items ≡ falling (vec_len l.locks.locks) (vec_len l.rests);
  part_room : vec_len l.locks.locks + vec_len l.cells ≤ vec_capacity l.cells;
  rest_room : vec_len l.locks.locks + vec_len l.rests ≤ vec_capacity l.rests;
}
