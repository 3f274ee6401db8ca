use Rattle.std.proofs.Common.{◌≡◌, ◌∙◌, false, refl, sym, true}
use Rattle.std.proofs.lemmas.Result.{err_from_is_err_and}
use Rattle.nv_calls.specs.declared.call.Call.TheVariants as calls
use Rattle.nv_mounted.proofs.Dialogues.{goes_on, stops}
use Rattle.nv_mounted.specs.Asks.{ask, ask_shape}
use Rattle.nv_mounted.specs.Renames.{leaves_directory, there_told}
use Rattle.nv_mounted.proofs.rename.ask_way.Goals as goal

pub returns-in_err-shape : goal.returns-in_err-shape
returns-in_err-shape g c =
    let p = err_from_is_err_and c.from_residual.result
    c.from_residual.ensures.1 in
    rw (p.1, p.2) (
    stops g.C.Core.Tells (ask_shape c.args.moved.now) _ _ _ _ c.in_err-shape.ensures)

pub returns-then-leaves_directory : goal.returns-then-leaves_directory
returns-then-leaves_directory g c =
    let goes : leaves_directory c.in_ok-shape.shape.kind c.args.from.now c.args.to.now ≡ true =
    sym c.leaves_directory.ensures ∙ c.if-leaves_directory.true in
    goes_on g.C.Core.Tells (ask_shape c.args.moved.now) _ _ _ _
    c.in_ok-shape.shape _ c.in_ok-shape.ensures
    (rw goes (refl, refl))

pub returns-in_err-there : goal.returns-in_err-there
returns-in_err-there g c =
    let p = err_from_is_err_and c.from_residual-in_err-there.result
    c.from_residual-in_err-there.ensures.1 in
    let stays : leaves_directory c.in_ok-shape.shape.kind c.args.from.now c.args.to.now ≡ false =
    sym c.leaves_directory.ensures ∙ c.if-leaves_directory.false in
    let refused = rw c.lookup-find_new.ensures at c.in_err-there.ensures in
    rw (p.1, p.2) (
    goes_on g.C.Core.Tells (ask_shape c.args.moved.now) _ _ _ _
    c.in_ok-shape.shape _ c.in_ok-shape.ensures (
    rw stays (
    stops g.C.Core.Tells (ask (calls.Lookup c.args.to.now c.args.new) there_told) _ _ _ _
    refused)))

pub returns : goal.returns
returns g c =
    let stays : leaves_directory c.in_ok-shape.shape.kind c.args.from.now c.args.to.now ≡ false =
    sym c.leaves_directory.ensures ∙ c.if-leaves_directory.false in
    let there = rw c.lookup-find_new.ensures at c.in_ok-there.ensures in
    goes_on g.C.Core.Tells (ask_shape c.args.moved.now) _ _ _ _
    c.in_ok-shape.shape _ c.in_ok-shape.ensures (
    rw stays (
    goes_on g.C.Core.Tells (ask (calls.Lookup c.args.to.now c.args.new) there_told) _ _ _ _
    c.in_ok-there.there _ there
    c.way_past.ensures))
