use Rattle.std.proofs.Common.{inr, subst}
use Rattle.std.specs.List.{Contains}
use Rattle.nv_epoch.specs.SnapList.{Snapshots, ids}
use Rattle.nv_core.proofs.LivingLogs.{can_show, settled_then}
use Rattle.nv_core.specs.Settled.{tree_at}
use Rattle.nv_core.specs.Shown.{shared_of}
use Rattle.nv_core.specs.Worlds.{WorldState}
use Rattle.nv_core.proofs.world.World.snap_tree_to.Goals as goal

pub tree_at_to-requires-clause-can : goal.tree_at_to-requires-clause-can
tree_at_to-requires-clause-can g c =
    let w : WorldState = record { shared = c.self.inside.shared; actors = c.self.inside.actors.items } in
    can_show w c.self.invariant.0 c.args.snapshot
    (subst (λ (s : Snapshots). Contains (ids s) c.args.snapshot) c.snaps.ensures.snaps
    (c.has.ensures.lives.0 c.if-not-has.false))

pub tree_at_to-requires-clause-settled : goal.tree_at_to-requires-clause-settled
tree_at_to-requires-clause-settled g c =
    let w : WorldState = record { shared = c.self.inside.shared; actors = c.self.inside.actors.items } in
    settled_then w c.self.invariant.0 c.args.snapshot
    (subst (λ (s : Snapshots). Contains (ids s) c.args.snapshot) c.snaps.ensures.snaps
    (c.has.ensures.lives.0 c.if-not-has.false))

pub returns-clause-some : goal.returns-clause-some
returns-clause-some g c = inr (tree_at c.args.snapshot (shared_of c.self.inside.shared), c.tree_at_to.ensures)
