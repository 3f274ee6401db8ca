use Rattle.std.proofs.Common.{◌≡◌, ◌<◌, true, Bool, List, map, arith, ap, subst, sym, ◌∙◌}
use Rattle.std.specs.List.{flat_map, range_with_len}
use Rattle.nv_alloc.specs.Numbers.{has}
use Rattle.nv_audit.specs.Image.{ImageValue, SlotImageValue, image_numbers, slot_numbers}
use Rattle.nv_base.specs.declared.fault.ImageFault.TheVariants as fault
use Rattle.nv_mount.specs.Build.{AreFree}
use Rattle.nv_mount.specs.Missing.{AreMarks, list_unmarked}
use Rattle.nv_mount.proofs.Marked.{free_missing, stands}
use Rattle.nv_mount.proofs.missing.missing_blocks.Goals as goal

pub marks_of-requires : goal.marks_of-requires
marks_of-requires c = λ n there.
    let image = c.args.image.now in
    let stood : has (image_numbers image) n ≡ true =
    subst (λ (slots : List SlotImageValue). has (flat_map slot_numbers slots) n ≡ true)
    (c.deref.ensures.value ∙ ap (λ (i : ImageValue). i.slots) c.image.view_is) there in
    subst (λ (i : ImageValue). n < i.numbers.blocks) (sym c.image.view_is)
    ((c.requires fault.Block).within n (stands (image_numbers image) n stood))

pub returns-in-Ok-clause-ok : goal.returns-in-Ok-clause-ok
returns-in-Ok-clause-ok c =
    let inside = c.image.inside in
    let g = inside.geometry.numbers in
    let marks = c.in_ok-marks.marks.items in
    let lists = c.push_lists.new.lists.items in
    let shown : ImageValue = record {
      numbers = g;
      slots = inside.slots.items;
      journals = inside.journals.items;
      snapshots = inside.snapshots.items;
      epoch = inside.epoch;
      commit = inside.commit;
    } in
    subst (λ (i : ImageValue). AreFree i 0 (image_numbers i) lists) c.image.view_is
    (free_missing shown marks lists (omega (arith, inside.geometry.limits.some_cpus))
    (subst (λ (slots : List SlotImageValue). AreMarks g.blocks (flat_map slot_numbers slots) marks) c.deref.ensures.value c.in_ok-marks.ensures)
    (c.in-Ok.ensures.ok ∙ ap (λ (ms : List Bool). map (list_unmarked g ms) (range_with_len 0 g.cpus)) c.deref-2.ensures.value)
    c.in-Ok.ensures.homes)
