use Rattle.std.proofs.Common.{subst}
use Rattle.std.specs.Prelude.{◌↔◌, IsTrue}
use Rattle.nv_log.specs.Image.{IsPaged}
use Rattle.nv_audit.specs.Faults.{AreChainsGood}
use Rattle.nv_audit.specs.Image.{ImageValue, SlotImageValue}
use Rattle.nv_audit.proofs.ImageSlots.{all_by_ino}
use Rattle.nv_audit.proofs.faults.chains.are_chains_good.Goals as goal

pub returns : goal.returns
returns c =
    let image : ImageValue = record {
      numbers = c.image.inside.geometry.numbers;
      slots = c.image.inside.slots.items;
      journals = c.image.inside.journals.items;
      snapshots = c.image.inside.snapshots.items;
      epoch = c.image.inside.epoch;
      commit = c.image.inside.commit;
    } in
    subst (λ (i : ImageValue). IsTrue c.are_paged.result ↔ AreChainsGood i) c.image.view_is
    (all_by_ino (λ (slot : SlotImageValue). IsPaged image.numbers.page slot.chain) image c.deref.result.now c.are_paged.result
    c.deref.ensures.value c.are_paged.ensures)
