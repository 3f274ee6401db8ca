use Rattle.std.proofs.Common.{◌∙◌, ap, subst, sym}
use Rattle.nv_audit.specs.Faults.{IsFaultless}
use Rattle.nv_audit.specs.Image.{ImageValue}
use Rattle.nv_core.specs.Stops.{world_of}
use Rattle.nv_core.specs.declared.shared.Shared.{Shared}
use Rattle.nv_restart.specs.Restarted.{image_of}
use Rattle.nv_core.proofs.world.World.stop.Goals as goal

pub returns-clause-faultless : goal.returns-clause-faultless
returns-clause-faultless c =
    subst (λ (i : ImageValue). IsFaultless i)
    (sym (c.into_image.ensures ∙ ap (λ (s : Shared). image_of (world_of s)) c.into_stopped-shared.ensures.shared))
    c.stands.ensures.faultless
