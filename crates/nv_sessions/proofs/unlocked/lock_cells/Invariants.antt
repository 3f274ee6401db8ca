use Rattle.std.proofs.Common.{◌≡◌, ◌+◌, length, map, vec_len, vec_capacity}
use Rattle.nv_sessions.specs.UnlockedParts.{slot_of, rest_told, cell_told}
use Rattle.nv_sessions.proofs.Slots.{falling}
use Rattle.nv_sessions.proofs.unlocked.lock_cells.Given as goal

abbrev pub decreases-loop-cell : goal.decreases-loop-cell
decreases-loop-cell g l = length l.cells.items

abbrev pub invariant-loop-cell : goal.invariant-loop-cell
invariant-loop-cell g l = record {
  locks : vec_capacity l.locks.locks ≡ vec_capacity l.initial.locks.locks;
  count : vec_len l.rests + vec_len l.locks.locks ≡ vec_len l.initial.rests;
  parts : vec_len l.cells ≡ vec_len l.rests;
  fit : map rest_told l.rests.items ≡ map cell_told l.cells.items;
  slots : map slot_of l.rests.items ≡ falling (vec_len l.locks.locks) (vec_len l.rests);
}
