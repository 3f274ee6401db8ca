use Rattle.std.proofs.Common.{ℕ, ◌<◌, slice_index_or}
use Rattle.nv_audit.specs.Image.{no_slot}
use Rattle.nv_audit.specs.MountedLogs.{IsFrontGoneLast}
use Rattle.nv_audit.proofs.faults.items.are_gone_last.Given as goal

abbrev pub invariant-loop-ino : goal.invariant-loop-ino
invariant-loop-ino l =
    (ino : ℕ) → ino < l.ino → IsFrontGoneLast (slice_index_or l.tails ino 0) (slice_index_or l.slots ino no_slot)
