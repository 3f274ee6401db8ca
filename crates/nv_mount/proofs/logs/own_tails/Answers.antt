use Rattle.std.proofs.Common.{ℕ, List, [], ◌∷◌, ◌++◌, ap, refl, ◌∙◌}
use Rattle.nv_audit.proofs.Pushing.{step}
use Rattle.nv_mount.specs.View.{SlotViewValue}
use Rattle.nv_mount.proofs.Seen.{own_tails}
use Rattle.nv_mount.proofs.logs.own_tails.Goals as goal

pub loop-slot-preserved : goal.loop-slot-preserved
loop-slot-preserved c =
    step own_tails (λ (s : SlotViewValue) (later : List SlotViewValue). s.chain.state.tail ∷ []) (λ s later. refl) c.args.slots.now
    c.loop-slot.slot-index c.slot-item.result c.loop-slot-test.true c.slot-item.is c.loop-slot.tails.items c.push.new.self.items
    (own_tails c.args.slots.now)
    (c.in_ok-push.ensures.items ∙ ap (λ (t : ℕ). c.loop-slot.tails.items ++ t ∷ []) c.own_tail.ensures) c.loop-slot.invariant
