use Rattle.std.proofs.Common.{refl}
use Rattle.std.proofs.lemmas.Result.{err_from_is_err_and}
use Rattle.nv_mount_beside.specs.Names.{node_named}
use Rattle.nv_mounted.specs.Asks.{ask_shape}
use Rattle.nv_mounted.specs.Dialogues.{Ends}
use Rattle.nv_mounted.proofs.Dialogues.{goes_on, stops}
use Rattle.nv_mounted.proofs.mount.Mount.open.Goals as goal

pub returns-in_err-handle : goal.returns-in_err-handle
returns-in_err-handle g c =
    let p = err_from_is_err_and c.from_residual.result c.from_residual.ensures.1 in
    rw (p.1, p.2) (record {
      had =
          stops g.C.Core.Tells (Ends (node_named c.args.number)) _ _ _ _
          (c.in_err-handle.ensures, refl);
      same = refl;
    })

pub returns-in_err-ask_shape : goal.returns-in_err-ask_shape
returns-in_err-ask_shape g c =
    let p = err_from_is_err_and c.from_residual-in_err-ask_shape.result
    c.from_residual-in_err-ask_shape.ensures.1 in
    rw (p.1, p.2) (record {
      had =
          goes_on g.C.Core.Tells (Ends (node_named c.args.number)) _ _ _ _
          c.in_ok-handle.handle _ (c.in_ok-handle.ensures, refl) (
          stops g.C.Core.Tells (ask_shape c.in_ok-handle.handle) _ _ _ _
          c.in_err-ask_shape.ensures);
      same = refl;
    })

pub returns : goal.returns
returns g c = record {
  had =
      goes_on g.C.Core.Tells (Ends (node_named c.args.number)) _ _ _ _
      c.in_ok-handle.handle _ (c.in_ok-handle.ensures, refl) (
      goes_on g.C.Core.Tells (ask_shape c.in_ok-handle.handle) _ _ _ _ _ _ c.in_ok-ask_shape.ensures
      ((cc), refl));
  same = tt;
}
