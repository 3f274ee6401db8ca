use Rattle.std.proofs.Common.{subst, sym}
use Rattle.nv_core.proofs.Bounds.{bounded}
use Rattle.nv_core.specs.Worlds.{Shows, WorldState}
use Rattle.nv_core.proofs.world.World.calls_end.Goals as goal

pub returns : goal.returns
returns c m shows =
    let w : WorldState = record { shared = c.self.inside.shared; actors = c.self.inside.actors.items } in
    bounded w m c.self.invariant.0 (subst (λ (v : WorldState). Shows v m) (sym c.self.view_is) shows)
