use Rattle.std.proofs.Common.{◌≡◌, ◌<◌, true, arith, subst}
use Rattle.nv_alloc.specs.Numbers.{has}
use Rattle.nv_audit.specs.Image.{SlotImageValue, slot_numbers}
use Rattle.nv_mount.proofs.Marked.{within_one}
use Rattle.nv_mount.proofs.missing.marks_of.Goals as goal

pub mark_slot-requires : goal.mark_slot-requires
mark_slot-requires c = λ n there.
    let count = c.args.geometry.now.numbers.blocks in
    let slot = c.index-slots-ino.result in
    let low : n < count =
    within_one slot_numbers count c.args.slots.now c.loop-ino.ino slot (omega arith) c.requires n
    (subst (λ (s : SlotImageValue). has (slot_numbers s) n ≡ true) c.index-slots-ino.is there) in
    omega (arith, low, c.loop-ino.invariant.len)
