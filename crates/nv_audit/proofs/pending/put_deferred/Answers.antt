use Rattle.std.proofs.Common.{ℕ, refl, take}
use Rattle.nv_audit.specs.Pending.{deferred_of}
use Rattle.nv_audit.proofs.PendingSlots.{deferred_more, no_more}
use Rattle.nv_audit.proofs.pending.put_deferred.Goals as goal

pub loop-gone-init : goal.loop-gone-init
loop-gone-init c = no_more (λ (ino : ℕ). deferred_of ino (take 0 c.args.deferred.now)) c.args.lists.now.items (λ ino. refl)

pub loop-gone-preserved : goal.loop-gone-preserved
loop-gone-preserved c =
    deferred_more c.args.deferred.now c.loop-gone.gone-index c.gone-item.result c.args.lists.now.items c.loop-gone.lists.items
    c.put_part.new.lists.items c.loop-gone-test.true c.gone-item.is c.loop-gone.invariant c.in_ok-put_part.ensures
