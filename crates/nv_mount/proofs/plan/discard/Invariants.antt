use Rattle.std.proofs.Common.{length}
use Rattle.nv_mount.proofs.plan.discard.Given as goal

abbrev pub decreases-loop-slot : goal.decreases-loop-slot
decreases-loop-slot l = length l.slots.items
