use Rattle.std.proofs.Common.{subst}
use Rattle.nv_core.specs.Consistent.{IsConsistentWorld}
use Rattle.nv_core.specs.Worlds.{WorldState}
use Rattle.nv_core.proofs.Consistent.{consistent_world}
use Rattle.nv_core.proofs.world.World.consistent.Goals as goal

pub returns : goal.returns
returns c =
    let w : WorldState = record { shared = c.self.inside.shared; actors = c.self.inside.actors.items } in
    subst IsConsistentWorld c.self.view_is (consistent_world w c.self.invariant.0)
