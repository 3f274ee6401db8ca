use Rattle.std.proofs.Common.{refl}
use Rattle.std.proofs.lemmas.Result.{err_from_is_err_and}
use Rattle.nv_calls.specs.declared.call.Call.TheVariants as calls
use Rattle.nv_mount_beside.specs.Names.{checked_name}
use Rattle.nv_mounted.specs.Asks.{ask_handle}
use Rattle.nv_mounted.specs.Dialogues.{Ends, Grows}
use Rattle.nv_mounted.specs.Talks.{ask_attributes}
use Rattle.nv_mounted.proofs.Dialogues.{goes_on, grown, stops}
use Rattle.nv_mounted.proofs.mount.Mount.lookup_name.Goals as goal

pub returns-in_err-name-clause-had : goal.returns-in_err-name-clause-had
returns-in_err-name-clause-had g c =
    let p = err_from_is_err_and c.from_residual.result c.from_residual.ensures.1 in
    rw (p.1, p.2) (
    stops g.C.Core.Tells (Grows (Ends (checked_name c.args.name.now))) _ _ _ _
    (grown g.C.Core.Tells _ _ _ c.in_err-name.ensures))

pub returns-in_err-handle-clause-had : goal.returns-in_err-handle-clause-had
returns-in_err-handle-clause-had g c =
    let p = err_from_is_err_and c.from_residual-in_err-handle.result
    c.from_residual-in_err-handle.ensures.1 in
    rw (p.1, p.2) (
    goes_on g.C.Core.Tells (Grows (Ends (checked_name c.args.name.now))) _ _ _ _ c.in_ok-name.name _
    (grown g.C.Core.Tells _ _ _ c.in_ok-name.ensures) (
    stops g.C.Core.Tells (ask_handle (calls.Lookup c.args.dir.now c.in_ok-name.name)) _ _ _ _
    c.in_err-handle.ensures))

pub returns-in_err-attributes-clause-had : goal.returns-in_err-attributes-clause-had
returns-in_err-attributes-clause-had g c =
    let p = err_from_is_err_and c.from_residual-in_err-attributes.result
    c.from_residual-in_err-attributes.ensures.1 in
    rw (p.1, p.2) (
    goes_on g.C.Core.Tells (Grows (Ends (checked_name c.args.name.now))) _ _ _ _ c.in_ok-name.name _
    (grown g.C.Core.Tells _ _ _ c.in_ok-name.ensures) (
    goes_on g.C.Core.Tells (ask_handle (calls.Lookup c.args.dir.now c.in_ok-name.name)) _ _ _ _
    c.in_ok-handle.handle _ c.in_ok-handle.ensures (
    stops g.C.Core.Tells (ask_attributes c.args.self.now.side c.in_ok-handle.handle) _ _ _ _
    c.in_err-attributes.ensures)))

pub returns-clause-had : goal.returns-clause-had
returns-clause-had g c =
    goes_on g.C.Core.Tells (Grows (Ends (checked_name c.args.name.now))) _ _ _ _ c.in_ok-name.name _
    (grown g.C.Core.Tells _ _ _ c.in_ok-name.ensures) (
    goes_on g.C.Core.Tells (ask_handle (calls.Lookup c.args.dir.now c.in_ok-name.name)) _ _ _ _
    c.in_ok-handle.handle _ c.in_ok-handle.ensures (
    goes_on g.C.Core.Tells (ask_attributes c.args.self.now.side c.in_ok-handle.handle) _ _ _ _
    c.in_ok-attributes.attributes _
    c.in_ok-attributes.ensures ((cc), refl)))
