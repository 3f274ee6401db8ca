use Rattle.std.proofs.Common.{◌∙◌, arith, refl, sym}
use Rattle.std.proofs.lemmas.Bool.{false≢true}
use Rattle.nv_base.specs.declared.fault.MismatchPart.TheVariants as part
use Rattle.nv_sessions.proofs.cleaners.test_cell.Goals as goal

pub returns-then-not-are_sized-clause-misfit : goal.returns-then-not-are_sized-clause-misfit
returns-then-not-are_sized-clause-misfit c =
    (part.Lists, refl, λ both. false≢true (sym c.if-not-are_sized.true ∙ c.are_sized.ensures.1 both))

pub returns-then-tail-len-clause-misfit : goal.returns-then-tail-len-clause-misfit
returns-then-tail-len-clause-misfit c = (part.Index, refl, λ same. absurd (omega (arith, c.if-tail-len.true, c.tail.ensures, c.len.ensures, same)))

pub returns-then-has_killed-clause-misfit : goal.returns-then-has_killed-clause-misfit
returns-then-has_killed-clause-misfit c = (part.Records, refl, sym c.has_killed.ensures ∙ c.if-has_killed.true)
