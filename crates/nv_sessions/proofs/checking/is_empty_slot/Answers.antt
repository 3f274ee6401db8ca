use Rattle.std.proofs.Common.{rules, ◌≡◌, ◌<◌, ◌∙◌, ap, arith, length, subst, sym}
use Rattle.std.proofs.lemmas.Bool.{eq-eqb, eqb-true}
use Rattle.nv_calls.specs.Cells.{ino_at, value_at}
use Rattle.nv_cell.specs.Cell.{CellValue, IsCell}
use Rattle.nv_sessions.proofs.CheckedOver.{empty_slot, empty_tail}
use Rattle.nv_sessions.proofs.checking.is_empty_slot.Goals as goal

pub returns-then-eq : goal.returns-then-eq
returns-then-eq g c =
    let cells = g.L.Cells.cells c.args.lent.now in
    let k = c.loop-k.k in
    let here : ino_at cells k ≡ c.args.ino = search rules in
    let lt : k < length cells = omega (arith, c.loop-k-test.true, c.count-k-end.ensures) in
    let first = c.loop-k.invariant in
    let tail : c.tail.result ≡ (value_at cells k).state.chain.tail =
    c.tail.ensures ∙ ap (λ (v : CellValue). v.state.chain.tail) c.cell-cell.ensures in
    let whole : IsCell (value_at cells k).state = subst (λ (v : CellValue). IsCell v.state) c.cell-cell.ensures c.holds_together.ensures in (
      λ yes. empty_slot cells k c.args.ino lt here first (sym tail ∙ eqb-true c.tail.result 0 yes),
      λ slot. eq-eqb c.tail.result 0 (tail ∙ empty_tail cells k c.args.ino lt here first whole slot),
    )
