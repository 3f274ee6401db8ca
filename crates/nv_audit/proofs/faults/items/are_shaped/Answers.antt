use Rattle.std.proofs.Common.{sym, subst, ◌∙◌}
use Rattle.std.proofs.lemmas.Bool.{false≢true}
use Rattle.nv_entry.specs.Shape.{IsShaped}
use Rattle.nv_audit.specs.Logged.{LoggedValue}
use Rattle.nv_audit.proofs.Items.{shaped_by}
use Rattle.nv_audit.proofs.Loops.{one_more}
use Rattle.nv_audit.proofs.faults.items.are_shaped.Goals as goal

pub returns-then-not-is_shaped : goal.returns-then-not-is_shaped
returns-then-not-is_shaped c =
    let own = c.logged-item.result in
    let same = shaped_by own c.block_bytes.result c.log.result.now c.block_bytes.ensures.value c.log.ensures.value in (
      λ no. absurd (false≢true no),
      λ all. absurd (false≢true (sym c.if-not-is_shaped.true ∙ c.is_shaped.ensures.1 (same.1
          (subst (λ (l : LoggedValue). IsShaped l.block l.log) (sym c.logged-item.is)
          (all c.loop-logged.logged-index own c.loop-logged-test.true))))),
    )

pub loop-logged-preserved : goal.loop-logged-preserved
loop-logged-preserved c =
    let own = c.logged-item.result in
    let same = shaped_by own c.block_bytes.result c.log.result.now c.block_bytes.ensures.value c.log.ensures.value in
    one_more (λ (l : LoggedValue). IsShaped l.block l.log) c.args.logs.now c.loop-logged.logged-index own c.is_shaped.result
    c.loop-logged-test.true c.logged-item.is (λ yes. same.0 (c.is_shaped.ensures.0 yes)) c.if-not-is_shaped.false
    c.loop-logged.invariant
