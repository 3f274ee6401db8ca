use Rattle.std.proofs.Common.{arith, ap, subst, sym, ◌∙◌}
use Rattle.nv_alloc.specs.Block.{AreSized}
use Rattle.nv_base.specs.declared.fault.ImageFault.TheVariants as fault
use Rattle.nv_audit.specs.Image.{ImageValue, SlotImageValue, slot_of}
use Rattle.nv_audit.specs.Logged.{LoggedValue}
use Rattle.nv_audit.proofs.Items.{its_sized, slot_told}
use Rattle.nv_audit.proofs.faults.runs.is_slot_good.Goals as goal

pub is_run_good-requires : goal.is_run_good-requires
is_run_good-requires c =
    let image = c.args.image.now in
    let ino = c.args.ino in
    subst (λ (s : SlotImageValue). AreSized c.args.own.now.block s.blocks) (sym c.slot-slot.ensures)
    (subst (λ (l : LoggedValue). AreSized l.block (slot_of image ino).blocks) (sym c.requires.log)
    (its_sized image ino (c.requires.earlier fault.Geometry (omega arith)) c.requires.slot))

pub returns-clause-ok : goal.returns-clause-ok
returns-clause-ok c =
    slot_told c.args.image.now c.args.ino c.args.own.now c.slot-slot.result.now.blocks c.deref.result.now
    (c.requires.earlier fault.Entry (omega arith)) c.requires.slot c.requires.log
    (ap (λ (s : SlotImageValue). s.blocks) c.slot-slot.ensures)
    (c.deref.ensures.value ∙ ap (λ (i : ImageValue). i.snapshots) c.image.view_is) c.is_run_good.result c.is_run_good.ensures.ok
