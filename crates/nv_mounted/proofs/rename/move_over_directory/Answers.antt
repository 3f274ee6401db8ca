use Rattle.std.proofs.Common.{inl, inr, refl}
use Rattle.std.proofs.lemmas.Result.{err_from_is_err_and}
use Rattle.nv_calls.specs.declared.call.Call.TheVariants as calls
use Rattle.nv_mounted.proofs.Dialogues.{goes_on, stops}
use Rattle.nv_mounted.specs.Asks.{ask_done}
use Rattle.nv_mounted.specs.Dialogues.{Grows}
use Rattle.nv_mounted.proofs.rename.move_over_directory.Goals as goal

pub returns-in_err-old : goal.returns-in_err-old
returns-in_err-old g c =
    let p = err_from_is_err_and c.from_residual.result c.from_residual.ensures.1 in
    let call = calls.Rmdir c.args.to.now c.args.new.now in
    rw (p.1, p.2, c.in_err-old.ensures) (
    stops g.C.Core.Tells (Grows (ask_done call)) _ _ _ _ (inl (refl, refl)))

pub returns-in_err-gone : goal.returns-in_err-gone
returns-in_err-gone g c =
    let p = err_from_is_err_and c.from_residual-in_err-gone.result
    c.from_residual-in_err-gone.ensures.1 in
    let call = calls.Rmdir c.args.to.now c.args.new.now in
    rw (p.1, p.2, c.in_err-gone.ensures) (
    stops g.C.Core.Tells (Grows (ask_done call)) _ _ _ _ (inl (refl, refl)))

pub returns-in_err-new : goal.returns-in_err-new
returns-in_err-new g c =
    let p = err_from_is_err_and c.from_residual-in_err-new.result
    c.from_residual-in_err-new.ensures.1 in
    let call = calls.Rmdir c.args.to.now c.args.new.now in
    rw (p.1, p.2, c.in_err-new.ensures) (
    stops g.C.Core.Tells (Grows (ask_done call)) _ _ _ _ (inl (refl, refl)))

pub returns-in_err-ask_done : goal.returns-in_err-ask_done
returns-in_err-ask_done g c =
    let p = err_from_is_err_and c.from_residual-in_err-ask_done.result
    c.from_residual-in_err-ask_done.ensures.1 in
    let call = calls.Rmdir c.args.to.now c.args.new.now in
    let refused = rw (c.rmdir.ensures, c.in_ok-gone.ensures) at c.in_err-ask_done.ensures in
    rw (p.1, p.2) (
    stops g.C.Core.Tells (Grows (ask_done call)) _ _ _ _ (inr refused))

pub returns : goal.returns
returns g c =
    let call = calls.Rmdir c.args.to.now c.args.new.now in
    let gone = rw (c.rmdir.ensures, c.in_ok-gone.ensures) at c.in_ok-ask_done.ensures in
    goes_on g.C.Core.Tells (Grows (ask_done call)) _ _ _ _
    tt _ (inr gone)
    (rw (c.rename.ensures, c.in_ok-old.ensures, c.in_ok-new.ensures) at c.ask_done-2.ensures)
