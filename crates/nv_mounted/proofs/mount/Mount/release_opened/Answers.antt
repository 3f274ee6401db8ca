use Rattle.std.proofs.Common.{refl}
use Rattle.std.proofs.lemmas.Result.{err_from_is_err_and}
use Rattle.nv_mount_beside.specs.Beside.{released}
use Rattle.nv_mount_beside.specs.Names.{node_named}
use Rattle.nv_mounted.specs.Dialogues.{Ends}
use Rattle.nv_mounted.specs.Side.{at_node}
use Rattle.nv_mounted.specs.Talks.{let_go}
use Rattle.nv_mounted.proofs.Dialogues.{goes_on, stops}
use Rattle.nv_mounted.proofs.mount.Mount.release_opened.Goals as goal

pub returns-in_err-handle : goal.returns-in_err-handle
returns-in_err-handle g c =
    let p = err_from_is_err_and c.from_residual.result c.from_residual.ensures.1 in
    rw (p.1, p.2) (record {
      had =
          stops g.C.Core.Tells (Ends (node_named c.args.number)) _ _ _ _
          (c.in_err-handle.ensures, refl);
      same = refl;
    })

pub returns-in_err-let_go : goal.returns-in_err-let_go
returns-in_err-let_go g c =
    let p = err_from_is_err_and c.from_residual-in_err-let_go.result
    c.from_residual-in_err-let_go.ensures.1 in
    let side = c.args.self.now.side in
    let b = released (at_node side c.in_ok-handle.handle) in
    let refused = rw (c.released-beside.ensures, c.at.ensures) at c.in_err-let_go.ensures.had in
    rw (p.1, p.2) (record {
      had =
          goes_on g.C.Core.Tells (Ends (node_named c.args.number)) _ _ _ _
          c.in_ok-handle.handle _ (c.in_ok-handle.ensures, refl) (
          stops g.C.Core.Tells (let_go side c.args.number b) _ _ _ _ refused);
      same = c.in_err-let_go.ensures.side;
    })

pub returns : goal.returns
returns g c =
    let side = c.args.self.now.side in
    let b = released (at_node side c.in_ok-handle.handle) in
    let done = rw (c.released-beside.ensures, c.at.ensures) at c.in_ok-let_go.ensures.had in
    let same = c.in_ok-let_go.ensures.side in
    record {
      had =
          goes_on g.C.Core.Tells (Ends (node_named c.args.number)) _ _ _ _
          c.in_ok-handle.handle _ (c.in_ok-handle.ensures, refl) (
          goes_on g.C.Core.Tells (let_go side c.args.number b) _ _ _ _
          c.in_ok-let_go.field-0 _ done
          (cc (c.put.ensures, same, c.released-beside.ensures, c.at.ensures), refl));
      same = tt;
    }
