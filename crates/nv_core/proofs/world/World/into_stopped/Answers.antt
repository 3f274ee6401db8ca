use Rattle.std.proofs.Common.{subst}
use Rattle.nv_core.specs.Stops.{HasImageRoom}
use Rattle.nv_core.specs.Worlds.{WorldState}
use Rattle.nv_core.proofs.world.World.into_stopped.Goals as goal

pub returns-clause-room : goal.returns-clause-room
returns-clause-room c =
    subst (λ (w : WorldState). HasImageRoom w.shared.geometry.numbers c.self.inside.room) c.self.view_is c.self.invariant.1
