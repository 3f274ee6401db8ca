use Rattle.std.proofs.Common.{ℕ, refl, take}
use Rattle.nv_audit.specs.Pending.{of_inode}
use Rattle.nv_audit.proofs.PendingSlots.{hands_more, no_more}
use Rattle.nv_audit.proofs.pending.put_in_hands.Goals as goal

pub loop-part-init : goal.loop-part-init
loop-part-init c = no_more (λ (ino : ℕ). of_inode ino (take 0 c.args.parts.now)) c.args.lists.now.items (λ ino. refl)

pub loop-part-preserved : goal.loop-part-preserved
loop-part-preserved c =
    hands_more c.args.parts.now c.loop-part.part-index c.part-item.result c.args.lists.now.items c.loop-part.lists.items
    c.put_part.new.lists.items c.loop-part-test.true c.part-item.is c.loop-part.invariant c.in_ok-put_part.ensures
