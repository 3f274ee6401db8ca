use Rattle.std.proofs.Common.{refl}
use Rattle.std.proofs.lemmas.Result.{err_from_is_err_and}
use Rattle.nv_mount_beside.specs.Names.{node_named}
use Rattle.nv_mounted.specs.Dialogues.{Ends}
use Rattle.nv_mounted.specs.Talks.{ask_attributes}
use Rattle.nv_mounted.proofs.Dialogues.{goes_on, stops}
use Rattle.nv_mounted.proofs.mount.Mount.get_attributes.Goals as goal

pub returns-in_err-handle-clause-had : goal.returns-in_err-handle-clause-had
returns-in_err-handle-clause-had g c =
    let p = err_from_is_err_and c.from_residual.result c.from_residual.ensures.1 in
    rw (p.1, p.2) (stops g.C.Core.Tells (Ends (node_named c.args.number)) _ _ _ _
    (c.in_err-handle.ensures, refl))

pub returns-in_err-attributes-clause-had : goal.returns-in_err-attributes-clause-had
returns-in_err-attributes-clause-had g c =
    let p = err_from_is_err_and c.from_residual-in_err-attributes.result
    c.from_residual-in_err-attributes.ensures.1 in
    rw (p.1, p.2) (
    goes_on g.C.Core.Tells (Ends (node_named c.args.number)) _ _ _ _
    c.in_ok-handle.handle _ (c.in_ok-handle.ensures, refl) (
    stops g.C.Core.Tells (ask_attributes c.args.self.now.side c.in_ok-handle.handle) _ _ _ _
    c.in_err-attributes.ensures))

pub returns-clause-had : goal.returns-clause-had
returns-clause-had g c =
    goes_on g.C.Core.Tells (Ends (node_named c.args.number)) _ _ _ _
    c.in_ok-handle.handle _ (c.in_ok-handle.ensures, refl) (
    goes_on g.C.Core.Tells (ask_attributes c.args.self.now.side c.in_ok-handle.handle) _ _ _ _
    c.in_ok-attributes.attributes _
    c.in_ok-attributes.ensures (refl, refl))
