use Rattle.std.proofs.Common.{◌≡◌, ℕ, [], arith, subst}
use Rattle.nv_audit.specs.Pending.{ArePendingOf}
use Rattle.nv_audit.proofs.PendingSlots.{no_slot, slot_more}
use Rattle.nv_audit.proofs.pending.none_pending.Goals as goal

pub loop-slot-init : goal.loop-slot-init
loop-slot-init c = no_slot c.new-lists.result.items c.new-lists.ensures.items

pub loop-slot-preserved : goal.loop-slot-preserved
loop-slot-preserved c =
    slot_more c.loop-slot._slot c.loop-slot.lists.items c.push.new.self.items c.new.result c.loop-slot.invariant c.new.ensures.items
    c.in_ok-push.ensures.items

pub returns : goal.returns
returns c =
    let end : c.loop-slot._slot ≡ c.args.slots = omega (arith, c.loop-slot-test.false, c.loop-slot.auto._slot-end) in
    subst (λ (n : ℕ). ArePendingOf n [] [] c.loop-slot.lists.items) end c.loop-slot.invariant
