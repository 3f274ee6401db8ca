use Rattle.nv_core.proofs.SettledLogs.{are_settled}
use Rattle.nv_core.specs.Settled.{tree_in}
use Rattle.nv_core.specs.Shown.{shared_of}
use Rattle.nv_core.specs.Worlds.{WorldState}
use Rattle.nv_core.proofs.world.World.tree_to.Goals as goal

pub tree_to-requires-clause-settled : goal.tree_to-requires-clause-settled
tree_to-requires-clause-settled g c =
    let w : WorldState = record { shared = c.self.inside.shared; actors = c.self.inside.actors.items } in
    are_settled w c.self.invariant.0

pub returns-clause-some : goal.returns-clause-some
returns-clause-some g c = (tree_in (shared_of c.self.inside.shared), c.tree_to.ensures)
