use Rattle.std.proofs.Common.{◌≡◌, [], List, ap, subst, sym}
use Rattle.nv_audit.specs.Faults.{IsFaultless}
use Rattle.nv_audit.specs.Image.{ImageValue, SlotImageValue}
use Rattle.nv_cell.specs.declared.bare.BareCell.{BareCell}
use Rattle.nv_mount.specs.Mount.{AreOpened, CanBuild}
use Rattle.nv_mount.specs.Slots.{AreOpen}
use Rattle.nv_mount.proofs.OpenedImages.{may_open}
use Rattle.nv_mount.proofs.mount.plan_image.Goals as goal

-- an image is opened whose slots were
opened : (shown whole : ImageValue) (left : List SlotImageValue) (bare told : List BareCell) → shown ≡ whole → left ≡ []
    → AreOpen shown.numbers.page shown.slots bare → told ≡ bare → AreOpened whole (record shown { slots = left }) told
opened shown whole left bare told is none stand as_told =
    let with_slots = λ (ss : List SlotImageValue). let i : ImageValue = record shown { slots = ss } in i in
    let of_shown : AreOpened shown (with_slots left) told = record {
      slots = subst (λ (bs : List BareCell). AreOpen shown.numbers.page shown.slots bs) (sym as_told) stand;
      same = ap with_slots none;
    } in
    subst (λ (i : ImageValue). AreOpened i (with_slots left) told) is of_shown

pub open_slots-requires-clause-lawful : goal.open_slots-requires-clause-lawful
open_slots-requires-clause-lawful c =
    let inside = c.image.inside in
    let shown : ImageValue = record {
      numbers = inside.geometry.numbers;
      slots = inside.slots.items;
      journals = inside.journals.items;
      snapshots = inside.snapshots.items;
      epoch = inside.epoch;
      commit = inside.commit;
    } in
    may_open shown (subst (λ (i : ImageValue). IsFaultless i) (sym c.image.view_is) c.requires.faultless)
    inside.geometry.limits.some_entries inside.geometry.limits.entries_fit

pub plan_opened-requires : goal.plan_opened-requires
plan_opened-requires c =
    let inside = c.image.inside in
    let shown : ImageValue = record {
      numbers = inside.geometry.numbers;
      slots = inside.slots.items;
      journals = inside.journals.items;
      snapshots = inside.snapshots.items;
      epoch = inside.epoch;
      commit = inside.commit;
    } in (
      c.args.image.now,
      c.requires.faultless,
      opened shown c.args.image.now c.open_slots.new.slots.items c.open_slots.new.bare.items c.as_slice.result.now
          c.image.view_is c.in_ok-open_slots.ensures.ok.0 c.in_ok-open_slots.ensures.ok.1 c.as_slice.ensures.value,
    )

pub returns-in-Ok-clause-ok : goal.returns-in-Ok-clause-ok
returns-in-Ok-clause-ok c =
    let inside = c.image.inside in
    let shown : ImageValue = record {
      numbers = inside.geometry.numbers;
      slots = inside.slots.items;
      journals = inside.journals.items;
      snapshots = inside.snapshots.items;
      epoch = inside.epoch;
      commit = inside.commit;
    } in
    let whole = c.args.image.now in
    subst (λ (bs : List BareCell). CanBuild whole c.in-Ok.plan bs) c.as_slice.ensures.value
    (c.in-Ok.ensures.ok whole c.requires.faultless (opened shown whole c.open_slots.new.slots.items
    c.open_slots.new.bare.items c.as_slice.result.now c.image.view_is c.in_ok-open_slots.ensures.ok.0
    c.in_ok-open_slots.ensures.ok.1 c.as_slice.ensures.value))
