use Rattle.nv_core.proofs.SettledLogs.{are_settled}
use Rattle.nv_core.specs.Worlds.{WorldState}
use Rattle.nv_core.proofs.world.World.tree.Goals as goal

pub tree-requires : goal.tree-requires
tree-requires c =
    let w : WorldState = record { shared = c.self.inside.shared; actors = c.self.inside.actors.items } in
    are_settled w c.self.invariant.0
