use Rattle.std.proofs.Common.{Bool, List, ap, subst, ◌∙◌}
use Rattle.std.specs.Prelude.{◌↔◌, IsTrue}
use Rattle.std.specs.Global.{Vec}
use Rattle.std.specs.List.{flat_map}
use Rattle.nv_audit.specs.Blocks.{AreMarksOnce, AreOnceBelow}
use Rattle.nv_audit.specs.Faults.{AreBlocksGood}
use Rattle.nv_audit.specs.Image.{ImageValue, SlotImageValue, slot_numbers}
use Rattle.nv_audit.proofs.ImageSlots.{blocks_told, some_told}
use Rattle.nv_audit.proofs.faults.numbers.are_blocks_good.Goals as goal

pub returns-clause-ok : goal.returns-clause-ok
returns-clause-ok c =
    let image : ImageValue = record {
      numbers = c.image.inside.geometry.numbers;
      slots = c.image.inside.slots.items;
      journals = c.image.inside.journals.items;
      snapshots = c.image.inside.snapshots.items;
      epoch = c.image.inside.epoch;
      commit = c.image.inside.commit;
    } in
    let numbers = c.deref-2.result.now in
    subst (λ (i : ImageValue). IsTrue c.is_some.result ↔ AreBlocksGood i) c.image.view_is
    (blocks_told image numbers c.is_some.result
    (c.deref-2.ensures.value ∙ c.in_ok-numbers.ensures
    ∙ ap (λ (slots : List SlotImageValue). flat_map slot_numbers slots) c.deref.ensures.value)
    (some_told (AreOnceBelow image.numbers.blocks numbers) (λ (marks : Vec Bool). AreMarksOnce image.numbers.blocks numbers marks.items)
    c.in_ok-marks.marks c.is_some.result c.is_some.ensures c.in_ok-marks.ensures (λ marks are. are.below)))
