use Rattle.std.proofs.Common.{◌≡◌, ap, inr, sym, ◌∙◌}
use Rattle.std.specs.Prelude.{is_some}
use Rattle.std.proofs.lemmas.Bool.{false≢true}
use Rattle.nv_base.specs.declared.fault.MismatchPart.TheVariants.{Counts}
use Rattle.nv_audit.specs.Records.{states_of}
use Rattle.nv_audit.specs.Whole.{CountsAgree}
use Rattle.nv_audit.proofs.Differs.{agrees_if_none, all_agree}
use Rattle.nv_audit.proofs.whole.audit.Goals as goal

pub returns-then-not-free-clause-err : goal.returns-then-not-free-clause-err
returns-then-not-free-clause-err c =
    let agree = CountsAgree c.args.book.now.state c.args.hands.parts.items (states_of c.args.cells.now) in
    inr (
      agrees_if_none agree (λ p. (p ≡ Counts) × (¬ agree)) c.in_ok-differs.differs (ap is_some c.in_default.is) c.in_ok-differs.ensures.ok,
      c.in_ok-recorded.ensures.ok.0 c.if-not-recorded.false,
      λ lists. false≢true (sym c.if-not-free.true ∙ c.in_ok-free.ensures.ok.1 lists),
    )

pub invariant_of-result : goal.invariant_of-result
invariant_of-result c =
    all_agree _ c.in_ok-differs.differs (ap is_some c.in_default.is) c.in_ok-differs.ensures.ok
    (c.in_ok-recorded.ensures.ok.0 c.if-not-recorded.false) (c.in_ok-free.ensures.ok.0 c.if-not-free.false)

pub returns-clause-agrees : goal.returns-clause-agrees
returns-clause-agrees c =
    all_agree _ c.in_ok-differs.differs (ap is_some c.in_default.is) c.in_ok-differs.ensures.ok
    (c.in_ok-recorded.ensures.ok.0 c.if-not-recorded.false) (c.in_ok-free.ensures.ok.0 c.if-not-free.false)
