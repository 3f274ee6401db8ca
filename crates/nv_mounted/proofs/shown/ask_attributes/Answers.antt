use Rattle.std.proofs.Common.{◌∙◌, ap, refl}
use Rattle.std.proofs.lemmas.Result.{err_from_is_err_and}
use Rattle.nv_mount_beside.specs.Names.{number_of}
use Rattle.nv_mount_beside.specs.Shown.{attributes_if}
use Rattle.nv_mount_beside.specs.declared.beside.Beside.{Beside}
use Rattle.nv_mounted.specs.Asks.{ask_shape}
use Rattle.nv_mounted.specs.Dialogues.{Ends}
use Rattle.nv_mounted.proofs.Dialogues.{goes_on, stops}
use Rattle.nv_mounted.proofs.shown.ask_attributes.Goals as goal

pub returns-in_err-node : goal.returns-in_err-node
returns-in_err-node g c =
    let p = err_from_is_err_and c.from_residual.result c.from_residual.ensures.1 in
    rw (p.1, p.2) (stops g.C.Core.Tells (Ends (number_of c.args.handle.now)) _ _ _ _
    (c.in_err-node.ensures, refl))

pub returns-in_err-shape : goal.returns-in_err-shape
returns-in_err-shape g c =
    let p = err_from_is_err_and c.from_residual-in_err-shape.result
    c.from_residual-in_err-shape.ensures.1 in
    rw (p.1, p.2) (
    goes_on g.C.Core.Tells (Ends (number_of c.args.handle.now)) _ _ _ _
    c.in_ok-node.node _ (c.in_ok-node.ensures, refl) (
    stops g.C.Core.Tells (ask_shape c.args.handle.now) _ _ _ _ c.in_err-shape.ensures))

pub returns : goal.returns
returns g c =
    goes_on g.C.Core.Tells (Ends (number_of c.args.handle.now)) _ _ _ _
    c.in_ok-node.node _ (c.in_ok-node.ensures, refl) (
    goes_on g.C.Core.Tells (ask_shape c.args.handle.now) _ _ _ _
    c.in_ok-shape.shape _ c.in_ok-shape.ensures
    (c.attributes.ensures ∙ ap (λ (b : Beside). attributes_if c.in_ok-node.node c.in_ok-shape.shape b.kept b.nameless) c.at-beside.ensures, refl))
