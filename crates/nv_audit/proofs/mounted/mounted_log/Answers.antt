use Rattle.std.proofs.Common.{◌≡◌, ◌≤◌, sym, subst}
use Rattle.nv_base.specs.declared.limits.TheConstants.{NUMBER}
use Rattle.nv_entry.specs.Log.{IsLog}
use Rattle.nv_audit.specs.Image.{ImageValue, SlotImageValue}
use Rattle.nv_audit.proofs.MountedLogs.{left_told}
use Rattle.nv_audit.proofs.mounted.mounted_log.Goals as goal

pub log_left-requires-clause-fits : goal.log_left-requires-clause-fits
log_left-requires-clause-fits c =
    subst (λ (s : SlotImageValue). s.generation ≤ NUMBER) (sym c.slot-slot.ensures) (c.requires.fits.each c.args.ino c.requires.slot).most

pub log_left-requires-clause-ordered : goal.log_left-requires-clause-ordered
log_left-requires-clause-ordered c =
    subst (λ (s : SlotImageValue). IsLog s.chain.entries) (sym c.slot-slot.ensures) (c.requires.ordered c.args.ino c.requires.slot).rising

pub returns-clause-ok : goal.returns-clause-ok
returns-clause-ok c =
    let image : ImageValue = record {
      numbers = c.image.inside.geometry.numbers;
      slots = c.image.inside.slots.items;
      journals = c.image.inside.journals.items;
      snapshots = c.image.inside.snapshots.items;
      epoch = c.image.inside.epoch;
      commit = c.image.inside.commit;
    } in
    let is : image ≡ c.args.image.now = c.image.view_is in
    left_told c.args.image.now c.args.ino c.args.tail image c.deref.result.now c.slot-slot.result.now is c.deref.ensures.value
    c.slot-slot.ensures c.log_left.result c.log_left.ensures.ok
