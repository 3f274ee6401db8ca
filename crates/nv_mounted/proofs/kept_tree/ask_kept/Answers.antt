use Rattle.std.proofs.Common.{◌≡◌, Ok, Err, ap, inr, refl}
use Rattle.std.proofs.lemmas.Result.{err_from_is_err_and}
use Rattle.nv_mount_answers.specs.Nodes.{root}
use Rattle.nv_mounted.specs.Dialogues.{Grows}
use Rattle.nv_mounted.specs.KeptTrees.{ask_path}
use Rattle.nv_mounted.proofs.Dialogues.{goes_on, stops}
use Rattle.nv_mounted.proofs.kept_tree.ask_kept.Goals as goal

pub returns-in_err-handle : goal.returns-in_err-handle
returns-in_err-handle g c =
    let p = err_from_is_err_and c.from_residual.result c.from_residual.ensures.1 in
    let had = rw c.as_slice.ensures at c.in_err-handle.ensures in
    rw (p.1, p.2) (
    stops g.C.Core.Tells (Grows (ask_path root c.args.node.now.path)) _ _ _ _ (inr had))

pub returns : goal.returns
returns g c =
    let had = rw c.as_slice.ensures at c.in_ok-handle.ensures in
    goes_on g.C.Core.Tells (Grows (ask_path root c.args.node.now.path)) _ _ _ _
    c.in_ok-handle.handle _ (inr had) ((cc), refl)
