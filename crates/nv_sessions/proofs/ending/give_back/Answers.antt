use Rattle.std.proofs.Common.{◌≡◌, ◌<◌, ◌∙◌, ap, arith, inl, inr, length, subst, sym}
use Rattle.std.specs.Prelude.{OnErr, Result}
use Rattle.std.proofs.lemmas.Bool.{false≢true}
use Rattle.nv_alloc.specs.Hand.{blocks_of}
use Rattle.nv_alloc.specs.declared.hand.Hand.{Hand}
use Rattle.nv_base.specs.declared.fault.Fault.{Fault}
use Rattle.nv_calls.proofs.FillPages.{always_err}
use Rattle.nv_sessions.proofs.Keeping.{on_err}
use Rattle.nv_sessions.proofs.ending.give_back.Goals as goal

-- some block was refused
pub returns-in_err-blocks-clause-kept : goal.returns-in_err-blocks-clause-kept
returns-in_err-blocks-clause-kept g c =
    let before = c.give_blocks-blocks.new.hand in
    let after = c.give_number-number.new.hand in
    let some : 0 < length (blocks_of before) =
    subst (λ (r : Result (Unit {0}) Fault). OnErr r (0 < length (blocks_of before))) c.in_err-blocks.was c.give_blocks-blocks.ensures.kept in
    let same : length (blocks_of after) ≡ length (blocks_of before) = elim c.give_number-number.ensures.number [
      | inl is ↦ ap (λ (h : Hand). length (blocks_of h)) is
      | inr is ↦ ap (λ (h : Hand). length (blocks_of h)) is
    ] in
    always_err c.from_residual.result _ (λ both. absurd (omega (arith, both.0, some, same)))

-- or the number
pub returns-clause-kept : goal.returns-clause-kept
returns-clause-kept g c =
    on_err c.give_number-number.result _ _ c.give_number-number.ensures.kept (λ some both. false≢true (sym both.1 ∙ some))
