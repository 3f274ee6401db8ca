use Rattle.std.proofs.Common.{◌≡◌, ℕ, ◌+◌, ◌<◌, ◌≤◌, length, arith, ap, sym, subst}
use Rattle.nv_cell.specs.declared.cell.InodeCell.TheInside.{Inside}
use Rattle.nv_cell.specs.Cell.{CellValue}
use Rattle.nv_cell.specs.Fields.{AreFields}
use Rattle.nv_cell.specs.Numbers.{part_base}
use Rattle.nv_cell.specs.Tallies.{end_at, start_at}
use Rattle.nv_cell.proofs.Cells.{base_rises}
use Rattle.nv_cell.proofs.PageMarks.{entry_marks}
use Rattle.nv_cell.proofs.Publishes.{first_base}
use Rattle.nv_cell.proofs.cell.InodeCell.marks_of.Goals as goal

-- the marks of an entry stand among all
range : (i : Inside) (entry : ℕ) → AreFields i → entry < i.chain.state.tail
    → (start_at i.marks.ends.items entry ≤ end_at i.marks.ends.items entry) × (end_at i.marks.ends.items entry ≤ length i.marks.marks.items)
range i entry inv lt =
    let es = i.chain.state.entries in
    let up : part_base es entry ≤ part_base es (entry + 1) = base_rises es entry (entry + 1) (omega arith) in
    let first = first_base i.marks.ends.items es i.chain.state.tail inv.ends entry lt in
    (omega (arith, first, inv.ends entry lt, up), inv.tallied.tallies.within entry (omega (arith, lt, inv.ends_len)))

pub slice_bounds-result-count : goal.slice_bounds-result-count
slice_bounds-result-count c =
    let i = c.self.inside in
    let lt = subst (λ (v : CellValue). c.args.entry < v.state.chain.tail) (sym c.self.view_is) c.requires in
    let end = c.end-end.ensures in
    omega (arith, range i c.args.entry c.self.invariant lt, c.first-first.ensures, end)

pub slice_bounds-result-start : goal.slice_bounds-result-start
slice_bounds-result-start c =
    let i = c.self.inside in
    let lt = subst (λ (v : CellValue). c.args.entry < v.state.chain.tail) (sym c.self.view_is) c.requires in
    let end = c.end-end.ensures in
    omega (arith, range i c.args.entry c.self.invariant lt, c.first-first.ensures, end)

pub slice_bounds-result-end : goal.slice_bounds-result-end
slice_bounds-result-end c =
    let i = c.self.inside in
    let lt = subst (λ (v : CellValue). c.args.entry < v.state.chain.tail) (sym c.self.view_is) c.requires in
    let end = c.end-end.ensures in
    let r = range i c.args.entry c.self.invariant lt in
    let len : length c.deref.result.now ≡ length i.marks.marks.items = ap length c.deref.ensures.value in
    omega (arith, r, len, end)

pub returns : goal.returns
returns c =
    let i = c.self.inside in
    let lt = subst (λ (v : CellValue). c.args.entry < v.state.chain.tail) (sym c.self.view_is) c.requires in
    let end = c.end-end.ensures in
    rw (← c.self.view_is, c.deref.ensures.value, end, c.first-first.ensures)
    (entry_marks i.chain.state i.marks.ends.items i.marks.marks.items c.args.entry
    c.holds_together.ensures.within c.self.invariant.ends lt)
