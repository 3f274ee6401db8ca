use Rattle.std.proofs.Common.{min, refl}
use Rattle.std.proofs.lemmas.Result.{err_from_is_err_and}
use Rattle.nv_calls.specs.declared.call.Call.TheVariants as calls
use Rattle.nv_mount_beside.specs.Names.{node_named}
use Rattle.nv_mounted.proofs.Dialogues.{goes_on, stops}
use Rattle.nv_mounted.specs.Asks.{ask}
use Rattle.nv_mounted.specs.Contents.{bytes_told}
use Rattle.nv_mounted.specs.Dialogues.{Ends}
use Rattle.nv_mounted.proofs.mount.Mount.read.Goals as goal

pub returns-in_err-file-clause-had : goal.returns-in_err-file-clause-had
returns-in_err-file-clause-had g c =
    let p = err_from_is_err_and c.from_residual.result c.from_residual.ensures.1 in
    rw (p.1, p.2) (
    stops g.C.Core.Tells (Ends (node_named c.args.number)) _ _ _ _ (c.in_err-file.ensures, refl))

pub returns-in_err-bytes-clause-had : goal.returns-in_err-bytes-clause-had
returns-in_err-bytes-clause-had g c =
    let p = err_from_is_err_and c.from_residual-in_err-bytes.result
    c.from_residual-in_err-bytes.ensures.1 in
    let count = min c.args.size 16777216 in
    let refused = rw c.read_at_once-count.ensures at c.in_err-bytes.ensures in
    rw (p.1, p.2) (
    goes_on g.C.Core.Tells (Ends (node_named c.args.number)) _ _ _ _
    c.in_ok-file.file _ (c.in_ok-file.ensures, refl) (
    stops g.C.Core.Tells
    (ask (calls.Read c.in_ok-file.file c.args.offset count) (bytes_told count))
    _ _ _ _ refused))

pub returns-clause-had : goal.returns-clause-had
returns-clause-had g c =
    let count = min c.args.size 16777216 in
    let told = rw c.read_at_once-count.ensures at c.in_ok-bytes.ensures in
    goes_on g.C.Core.Tells (Ends (node_named c.args.number)) _ _ _ _
    c.in_ok-file.file _ (c.in_ok-file.ensures, refl) (
    goes_on g.C.Core.Tells
    (ask (calls.Read c.in_ok-file.file c.args.offset count) (bytes_told count))
    _ _ _ _ c.in_ok-bytes.bytes _ told
    (refl, refl))
