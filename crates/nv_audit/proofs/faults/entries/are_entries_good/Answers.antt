use Rattle.std.proofs.Common.{subst}
use Rattle.std.specs.Prelude.{◌↔◌, IsTrue}
use Rattle.nv_audit.specs.Faults.{AreEntriesGood, AreOrdered}
use Rattle.nv_audit.specs.Image.{ImageValue, SlotImageValue}
use Rattle.nv_audit.proofs.ImageSlots.{all_by_ino}
use Rattle.nv_audit.proofs.faults.entries.are_entries_good.Goals as goal

pub returns : goal.returns
returns c =
    let image : ImageValue = record {
      numbers = c.image.inside.geometry.numbers;
      slots = c.image.inside.slots.items;
      journals = c.image.inside.journals.items;
      snapshots = c.image.inside.snapshots.items;
      epoch = c.image.inside.epoch;
      commit = c.image.inside.commit;
    } in
    subst (λ (i : ImageValue). IsTrue c.are_all_ordered.result ↔ AreEntriesGood i) c.image.view_is
    (all_by_ino (λ (slot : SlotImageValue). AreOrdered image.commit image.epoch slot.chain.entries) image c.deref.result.now
    c.are_all_ordered.result c.deref.ensures.value c.are_all_ordered.ensures)
