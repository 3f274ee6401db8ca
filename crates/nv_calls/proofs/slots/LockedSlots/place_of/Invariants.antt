use Rattle.std.proofs.Common.{ℕ, ◌<◌, slice_index_or}
use Rattle.nv_calls.specs.SlotList.{slots_in}
use Rattle.nv_calls.proofs.slots.LockedSlots.place_of.Given as goal

abbrev pub invariant-loop-place : goal.invariant-loop-place
invariant-loop-place l = (k : ℕ) → k < l.place → slice_index_or (slots_in l.self) k 0 < l.ino
