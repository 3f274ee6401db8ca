use Rattle.std.proofs.Common.{ℕ, ◌<◌, length, subst}
use Rattle.std.specs.Prelude.{◌↔◌, IsTrue}
use Rattle.nv_audit.specs.Faults.{FitsSlot}
use Rattle.nv_audit.specs.Image.{ImageValue, slot_of}
use Rattle.nv_audit.proofs.ImageSlots.{all_by_ino}
use Rattle.nv_audit.proofs.faults.fit.fit_its_slots.Goals as goal

pub returns : goal.returns
returns c =
    let image : ImageValue = record {
      numbers = c.image.inside.geometry.numbers;
      slots = c.image.inside.slots.items;
      journals = c.image.inside.journals.items;
      snapshots = c.image.inside.snapshots.items;
      epoch = c.image.inside.epoch;
      commit = c.image.inside.commit;
    } in
    subst (λ (i : ImageValue). IsTrue c.fit_slots.result ↔ ((ino : ℕ) → ino < length i.slots → FitsSlot i.numbers (slot_of i ino)))
    c.image.view_is
    (all_by_ino (FitsSlot image.numbers) image c.deref.result.now c.fit_slots.result c.deref.ensures.value c.fit_slots.ensures)
