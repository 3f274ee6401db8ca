use Rattle.std.proofs.Common.{refl}
use Rattle.std.proofs.lemmas.Result.{err_from_is_err_and}
use Rattle.nv_mounted.specs.Snapshots.{drop_epoch}
use Rattle.nv_mounted.proofs.Dialogues.{goes_on, stops}
use Rattle.nv_mounted.proofs.snapshots.drop_refused.Goals as goal

pub returns-in_err-drop_snapshot : goal.returns-in_err-drop_snapshot
returns-in_err-drop_snapshot g c =
    let p = err_from_is_err_and c.from_residual.result c.from_residual.ensures.1 in
    rw (p.1, p.2) (
    stops g.C.Core.Tells (drop_epoch c.args.epoch) _ _ _ _ c.in_err-drop_snapshot.ensures)

pub returns : goal.returns
returns g c =
    goes_on g.C.Core.Tells (drop_epoch c.args.epoch) _ _ _ _ tt _ c.in_ok-drop_snapshot.ensures
    (refl, refl)
