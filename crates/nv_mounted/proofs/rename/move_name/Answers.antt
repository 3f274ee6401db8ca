use Rattle.std.proofs.Common.{inl, inr, refl}
use Rattle.std.proofs.lemmas.Result.{err_from_is_err_and}
use Rattle.nv_mounted.proofs.rename.move_name.Goals as goal

pub returns-in_err-old : goal.returns-in_err-old
returns-in_err-old g c =
    let p = err_from_is_err_and c.from_residual.result c.from_residual.ensures.1 in
    rw (p.1, p.2, c.in_err-old.ensures) (inl (refl, refl))

pub returns-in_err-new : goal.returns-in_err-new
returns-in_err-new g c =
    let p = err_from_is_err_and c.from_residual-in_err-new.result
    c.from_residual-in_err-new.ensures.1 in
    rw (p.1, p.2, c.in_err-new.ensures) (inl (refl, refl))

pub returns : goal.returns
returns g c =
    inr (rw (c.rename.ensures, c.in_ok-old.ensures, c.in_ok-new.ensures) at c.ask_done.ensures)
