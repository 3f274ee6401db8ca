use Rattle.std.proofs.Common.{◌∙◌, refl, sym}
use Rattle.std.proofs.lemmas.Bool.{ne_eqb}
use Rattle.std.proofs.lemmas.Result.{err_from_is_err_and}
use Rattle.nv_mounted.proofs.Dialogues.{goes_on, stops}
use Rattle.nv_mounted.specs.Asks.{ask_shape}
use Rattle.nv_mounted.proofs.rename.way_past.Goals as goal

pub returns-in_err-other : goal.returns-in_err-other
returns-in_err-other g c =
    let p = err_from_is_err_and c.from_residual.result c.from_residual.ensures.1 in
    let another = ne_eqb c.args.flags 1 c.if-flags-eq-NO_REPLACE.false in
    let other = sym c.is_same.ensures ∙ c.if-is_same.false in
    rw (c.in-Some.is, another, other, p.1, p.2) (
    stops g.C.Core.Tells (ask_shape c.in-Some.there) _ _ _ _ c.in_err-other.ensures)

pub returns : goal.returns
returns g c =
    let another = ne_eqb c.args.flags 1 c.if-flags-eq-NO_REPLACE.false in
    let other = sym c.is_same.ensures ∙ c.if-is_same.false in
    rw (c.in-Some.is, another, other) (
    goes_on g.C.Core.Tells (ask_shape c.in-Some.there) _ _ _ _
    c.in_ok-other.other _ c.in_ok-other.ensures
    (c.way_over.ensures, refl))
