use Rattle.std.proofs.Common.{refl}
use Rattle.std.proofs.lemmas.Result.{err_from_is_err_and}
use Rattle.nv_mount_beside.specs.Names.{node_named}
use Rattle.nv_mounted.proofs.Dialogues.{goes_on, stops}
use Rattle.nv_mounted.specs.Asks.{ask_shape}
use Rattle.nv_mounted.specs.Dialogues.{Ends}
use Rattle.nv_mounted.proofs.mount.Mount.make.Goals as goal

pub returns-in_err-dir : goal.returns-in_err-dir
returns-in_err-dir g c =
    let p = err_from_is_err_and c.from_residual.result c.from_residual.ensures.1 in
    rw (p.1, p.2) (record {
      had =
          stops g.C.Core.Tells (Ends (node_named c.args.header.now.node)) _ _ _ _
          (c.in_err-dir.ensures, refl);
      same = refl;
    })

pub returns-in_err-parent : goal.returns-in_err-parent
returns-in_err-parent g c =
    let p = err_from_is_err_and c.from_residual-in_err-parent.result
    c.from_residual-in_err-parent.ensures.1 in
    rw (p.1, p.2) (record {
      had =
          goes_on g.C.Core.Tells (Ends (node_named c.args.header.now.node)) _ _ _ _
          c.in_ok-dir.dir _ (c.in_ok-dir.ensures, refl) (
          stops g.C.Core.Tells (ask_shape c.in_ok-dir.dir) _ _ _ _ c.in_err-parent.ensures);
      same = refl;
    })

pub returns : goal.returns
returns g c =
    let made = rw (c.owner_made-owner.ensures, c.mode_in-mode.ensures) at c.make_owned.ensures in
    record {
      had =
          goes_on g.C.Core.Tells (Ends (node_named c.args.header.now.node)) _ _ _ _
          c.in_ok-dir.dir _ (c.in_ok-dir.ensures, refl) (
          goes_on g.C.Core.Tells (ask_shape c.in_ok-dir.dir) _ _ _ _
          c.in_ok-parent.parent _ c.in_ok-parent.ensures
          made.had);
      same = made.same;
    }
