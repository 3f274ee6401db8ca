use Rattle.std.proofs.Common.{ap, ◌∙◌}
use Rattle.nv_audit.specs.Image.{ImageValue}
use Rattle.nv_audit.proofs.ImageSlots.{snaps_told}
use Rattle.nv_audit.proofs.faults.snaps.are_snaps_good.Goals as goal

pub returns : goal.returns
returns c =
    snaps_told c.args.image.now c.deref.result.now c.image.inside.epoch c.rise_below.result
    (c.deref.ensures.value ∙ ap (λ (i : ImageValue). i.snapshots) c.image.view_is) (ap (λ (i : ImageValue). i.epoch) c.image.view_is)
    c.rise_below.ensures
