use Rattle.std.proofs.Common.{◌<◌, length, arith, subst, sym}
use Rattle.nv_alloc.specs.Block.{numbers_of}
use Rattle.nv_audit.specs.Image.{SlotImageValue}
use Rattle.nv_mount.specs.Missing.{AreWithin}
use Rattle.nv_mount.proofs.Marked.{slot_data, slot_pages}
use Rattle.nv_mount.proofs.missing.mark_slot.Goals as goal

pub mark_chain-requires : goal.mark_chain-requires
mark_chain-requires c =
    let count = length c.args.marks.now.items in
    subst (λ (s : SlotImageValue). AreWithin count (numbers_of s.chain.pages)) (sym c.slot.view_is) (slot_pages count c.args.slot.now c.requires)

pub mark_data-requires : goal.mark_data-requires
mark_data-requires c = λ n there.
    let count = length c.args.marks.now.items in
    let low : n < count =
    subst (λ (s : SlotImageValue). AreWithin count (numbers_of s.blocks)) (sym c.slot.view_is) (slot_data count c.args.slot.now c.requires) n there in
    omega (arith, low, c.mark_chain.ensures.len)
