use Rattle.std.proofs.Common.{List, refl}
use Rattle.std.specs.List.{flat_map}
use Rattle.nv_audit.specs.Image.{SlotImageValue, slot_numbers}
use Rattle.nv_audit.proofs.Pushing.{step}
use Rattle.nv_audit.proofs.faults.numbers.all_numbers.Goals as goal

pub loop-slot-preserved : goal.loop-slot-preserved
loop-slot-preserved c =
    step (λ (ss : List SlotImageValue). flat_map slot_numbers ss) (λ (s : SlotImageValue) (later : List SlotImageValue). slot_numbers s)
    (λ s later. refl) c.args.slots.now c.loop-slot.slot-index c.slot-item.result c.loop-slot-test.true c.slot-item.is
    c.loop-slot.numbers.items c.push_slot.new.numbers.items (flat_map slot_numbers c.args.slots.now) c.in_ok-push_slot.ensures
    c.loop-slot.invariant
