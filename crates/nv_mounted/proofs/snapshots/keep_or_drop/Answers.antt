use Rattle.nv_mounted.specs.KeptTrees.{ask_kept_tree}
use Rattle.nv_mounted.specs.Snapshots.{drop_epoch}
use Rattle.nv_mounted.proofs.Undone.{is_undone, not_undone}
use Rattle.nv_mounted.proofs.snapshots.keep_or_drop.Goals as goal

pub returns-in-Ok : goal.returns-in-Ok
returns-in-Ok g c =
    not_undone g.C.Core.Tells (drop_epoch c.args.epoch)
    (ask_kept_tree c.args.nodes.now c.args.epoch) _ _ _ c.in-Ok.ensures

pub returns-in-Err : goal.returns-in-Err
returns-in-Err g c =
    is_undone g.C.Core.Tells (drop_epoch c.args.epoch)
    (ask_kept_tree c.args.nodes.now c.args.epoch) _ _ _ _ _ c.in-Err.ensures
    c.drop_refused.ensures
