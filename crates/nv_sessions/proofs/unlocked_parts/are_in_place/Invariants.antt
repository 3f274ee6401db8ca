use Rattle.std.proofs.Common.{◌≡◌, ℕ, ◌<◌, slice_index_or}
use Rattle.nv_sessions.specs.UnlockedParts.{BesideCellValue}
use Rattle.nv_sessions.proofs.unlocked_parts.are_in_place.Given as goal

abbrev pub invariant-loop-slot : goal.invariant-loop-slot
invariant-loop-slot g l = (k : ℕ) (d : BesideCellValue) → k < l.slot → (slice_index_or l.cells k d).ino ≡ k
