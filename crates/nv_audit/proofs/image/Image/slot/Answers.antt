use Rattle.std.proofs.Common.{length, arith, ap}
use Rattle.nv_audit.specs.Image.{ImageValue}
use Rattle.nv_audit.proofs.ImageSlots.{slot_here}
use Rattle.nv_audit.proofs.image.Image.slot.Goals as goal

pub index-requires : goal.index-requires
index-requires c =
    omega (arith, c.requires, c.self.inside.slots.ok.0, ap (λ (i : ImageValue). length i.slots) c.self.view_is)

pub returns : goal.returns
returns c =
    slot_here c.args.self.now c.self.inside.slots.items c.args.ino c.index.result.now (ap (λ (i : ImageValue). i.slots) c.self.view_is)
    c.requires c.index.ensures
