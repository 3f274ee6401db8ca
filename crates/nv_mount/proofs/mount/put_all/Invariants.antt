use Rattle.std.proofs.Common.{length}
use Rattle.nv_audit.specs.Image.{ImageValue}
use Rattle.nv_mount.specs.Mount.{AreLeft, CanBuild}
use Rattle.nv_mount.proofs.Puts.{ArePut}
use Rattle.nv_mount.proofs.mount.put_all.Given as goal

abbrev pub invariant-loop-slot : goal.invariant-loop-slot
invariant-loop-slot l =
    (image : ImageValue) (can : CanBuild image l.initial.plan l.initial.bare.items) → AreLeft image l.initial.lists.items
    → ArePut image can.view l.plan l.bare.items l.lists.items

abbrev pub decreases-loop-slot : goal.decreases-loop-slot
decreases-loop-slot l = length l.bare.items
