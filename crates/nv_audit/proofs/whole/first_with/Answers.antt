use Rattle.std.proofs.Common.{◌≡◌, ℕ, List, subst, sym, ◌∙◌}
use Rattle.nv_base.specs.declared.fault.MismatchPart.TheVariants.{Counts}
use Rattle.nv_cell.specs.Cell.{CellState}
use Rattle.nv_entry.specs.declared.part.PartId.{PartId}
use Rattle.nv_audit.specs.Pending.{parts_at}
use Rattle.nv_audit.specs.Records.{states_of}
use Rattle.nv_audit.specs.Whole.{CountsAgreeWith, IsCountedWith}
use Rattle.nv_audit.proofs.Differs.{agrees_if_none, differs_if_some}
use Rattle.nv_audit.proofs.Loops.{one_more_at}
use Rattle.nv_audit.proofs.States.{as_many, state_at}
use Rattle.nv_audit.proofs.whole.first_with.Goals as goal

pub returns-then-is_some-clause-ok : goal.returns-then-is_some-clause-ok
returns-then-is_some-clause-ok c =
    let counted = IsCountedWith c.args.snapshots.now in
    let states = states_of c.args.cells.now in
    let agree = CountsAgreeWith c.args.snapshots.now c.args.pending.now states in
    let i = c.loop-place.place in
    let cell = c.index-cells-place.result in
    let is = state_at c.args.cells.now i cell c.loop-place-test.true c.index-cells-place.is in
    let own : parts_at c.args.pending.now i ≡ c.pending_at.result.now = sym c.pending_at.ensures in
    differs_if_some (counted c.pending_at.result.now cell.state) agree (λ p. (p ≡ Counts) × (¬ counted c.pending_at.result.now cell.state))
    (λ p. (p ≡ Counts) × (¬ agree))
    c.in_ok-differs.differs (sym c.is_some.ensures ∙ c.if-is_some.true)
    (λ p told. (
      told.0,
      λ all. told.1 (subst (λ (ps : List PartId). counted ps cell.state) own
          (subst (counted (parts_at c.args.pending.now i)) (sym is) (all i cell.state (as_many c.args.cells.now i c.loop-place-test.true)))),
    ))
    c.in_ok-differs.ensures.ok

pub loop-place-preserved : goal.loop-place-preserved
loop-place-preserved c =
    let counted = IsCountedWith c.args.snapshots.now in
    let states = states_of c.args.cells.now in
    let i = c.loop-place.place in
    let cell = c.index-cells-place.result in
    let is = state_at c.args.cells.now i cell c.loop-place-test.true c.index-cells-place.is in
    let own : parts_at c.args.pending.now i ≡ c.pending_at.result.now = sym c.pending_at.ensures in
    one_more_at (λ (n : ℕ) (x : CellState). counted (parts_at c.args.pending.now n) x) states i cell.state
    (as_many c.args.cells.now i c.loop-place-test.true) is
    (subst (λ (ps : List PartId). counted ps cell.state) (sym own)
    (agrees_if_none (counted c.pending_at.result.now cell.state) (λ p. (p ≡ Counts) × (¬ counted c.pending_at.result.now cell.state))
    c.in_ok-differs.differs (sym c.is_some.ensures ∙ c.if-is_some.false) c.in_ok-differs.ensures.ok))
    c.loop-place.invariant
