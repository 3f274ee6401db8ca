use Rattle.std.proofs.Common.{subst}
use Rattle.nv_audit.specs.Faults.{IsFaultless}
use Rattle.nv_mount.specs.View.{IsSeen}
use Rattle.nv_core.proofs.StoppedWorlds.{fits_room, world_faultless, world_seen}
use Rattle.nv_core.specs.Restarts.{image_by, view_of}
use Rattle.nv_core.specs.Stops.{FitsRoom}
use Rattle.nv_core.specs.Worlds.{WorldState}
use Rattle.nv_core.proofs.world.World.stands.Goals as goal

pub returns-clause-faultless : goal.returns-clause-faultless
returns-clause-faultless c =
    let w : WorldState = record { shared = c.self.inside.shared; actors = c.self.inside.actors.items } in
    subst (λ (v : WorldState). IsFaultless (image_by v.shared)) c.self.view_is (world_faultless w c.self.invariant.0)

pub returns-clause-fits : goal.returns-clause-fits
returns-clause-fits c =
    let w : WorldState = record { shared = c.self.inside.shared; actors = c.self.inside.actors.items } in
    subst (λ (v : WorldState). FitsRoom v.shared) c.self.view_is (fits_room w.shared (world_faultless w c.self.invariant.0))

pub returns-clause-seen : goal.returns-clause-seen
returns-clause-seen c =
    let w : WorldState = record { shared = c.self.inside.shared; actors = c.self.inside.actors.items } in
    subst (λ (v : WorldState). IsSeen (image_by v.shared) (view_of v.shared)) c.self.view_is (world_seen w c.self.invariant.0)
