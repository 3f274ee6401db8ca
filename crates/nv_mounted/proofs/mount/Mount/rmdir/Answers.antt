use Rattle.std.proofs.Common.{refl}
use Rattle.std.proofs.lemmas.Result.{err_from_is_err_and}
use Rattle.nv_calls.specs.declared.call.Call.TheVariants as calls
use Rattle.nv_mount_beside.specs.Names.{free_name, node_named}
use Rattle.nv_mounted.specs.Asks.{ask_done}
use Rattle.nv_mounted.specs.Dialogues.{Ends, Grows}
use Rattle.nv_mounted.proofs.Dialogues.{goes_on, grown, stops}
use Rattle.nv_mounted.proofs.mount.Mount.rmdir.Goals as goal

pub returns-in_err-dir : goal.returns-in_err-dir
returns-in_err-dir g c =
    let p = err_from_is_err_and c.from_residual.result c.from_residual.ensures.1 in
    rw (p.1, p.2) (record {
      had =
          stops g.C.Core.Tells (Ends (node_named c.args.dir)) _ _ _ _ (c.in_err-dir.ensures, refl);
      same = refl;
    })

pub returns-in_err-name : goal.returns-in_err-name
returns-in_err-name g c =
    let p = err_from_is_err_and c.from_residual-in_err-name.result
    c.from_residual-in_err-name.ensures.1 in
    rw (p.1, p.2) (record {
      had =
          goes_on g.C.Core.Tells (Ends (node_named c.args.dir)) _ _ _ _
          c.in_ok-dir.dir _ (c.in_ok-dir.ensures, refl) (
          stops g.C.Core.Tells (Grows (Ends (free_name c.in_ok-dir.dir c.args.file.now))) _ _ _ _
          (grown g.C.Core.Tells _ _ _ c.in_err-name.ensures));
      same = refl;
    })

pub returns-in_err-ask_done : goal.returns-in_err-ask_done
returns-in_err-ask_done g c =
    let p = err_from_is_err_and c.from_residual-in_err-ask_done.result
    c.from_residual-in_err-ask_done.ensures.1 in
    let refused = rw c.rmdir.ensures at c.in_err-ask_done.ensures in
    rw (p.1, p.2) (record {
      had =
          goes_on g.C.Core.Tells (Ends (node_named c.args.dir)) _ _ _ _
          c.in_ok-dir.dir _ (c.in_ok-dir.ensures, refl) (
          goes_on g.C.Core.Tells (Grows (Ends (free_name c.in_ok-dir.dir c.args.file.now))) _ _ _ _
          c.in_ok-name.name _
          (grown g.C.Core.Tells _ _ _ c.in_ok-name.ensures) (
          stops g.C.Core.Tells (ask_done (calls.Rmdir c.in_ok-dir.dir c.in_ok-name.name)) _ _ _ _
          refused));
      same = refl;
    })

pub returns : goal.returns
returns g c =
    let done = rw c.rmdir.ensures at c.in_ok-ask_done.ensures in
    record {
      had =
          goes_on g.C.Core.Tells (Ends (node_named c.args.dir)) _ _ _ _
          c.in_ok-dir.dir _ (c.in_ok-dir.ensures, refl) (
          goes_on g.C.Core.Tells (Grows (Ends (free_name c.in_ok-dir.dir c.args.file.now))) _ _ _ _
          c.in_ok-name.name _
          (grown g.C.Core.Tells _ _ _ c.in_ok-name.ensures) (
          goes_on g.C.Core.Tells (ask_done (calls.Rmdir c.in_ok-dir.dir c.in_ok-name.name)) _ _ _ _
          tt _ done
          ((cc), refl)));
      same = tt;
    }
