use Rattle.std.proofs.Common.{◌≡◌, ◌∙◌, List, ℕ, ap₂, subst₂}
use Rattle.std.specs.Prelude.{IfOk, option_map}
use Rattle.std.specs.Result.{result_err}
use Rattle.nv_calls.specs.Nodes.{nodes_in}
use Rattle.nv_calls.specs.SlotCells.{lent_cells}
use Rattle.nv_calls.specs.declared.update.Update.{Update}
use Rattle.nv_cell.specs.Cell.{CellValue}
use Rattle.nv_core.proofs.SameCells.{cells_same}
use Rattle.nv_core.proofs.Takes.{by_with}
use Rattle.nv_core.specs.Nodes.{ends_over, wanted_over}
use Rattle.nv_core.specs.Shown.{ending_of, slots_in}
use Rattle.nv_core.proofs.kinds.check.test.Goals as goal

pub returns-clause-same : goal.returns-clause-same
returns-clause-same c = cells_same c.args.shared.now c.test_in.new.cells (c.test_in.ensures.same ∙ c.deref_mut.ensures.value)

pub returns-clause-ends : goal.returns-clause-ends
returns-clause-ends c =
    let slots = slots_in c.args.running.now.slots in
    let before = c.args.running.now.looked in
    let over = λ (size : ℕ) (cells : List CellValue) (u : Update).
    ends_over size (nodes_in (lent_cells slots cells)) before c.args.has_number u in
    let block = c.args.shared.now.geometry.numbers.block in
    by_with (λ (u : Update). option_map ending_of (result_err c.test_in.result) ≡ over block c.args.shared.now.cells.items u)
    c.args.running.now.request c.update-update.result.now
    (c.test_in.ensures.ends
    ∙ ap₂ (λ (size : ℕ) (cells : List CellValue). over size cells c.update-update.result.now) c.block-block.ensures c.deref_mut.ensures.value)
    c.update-update.ensures

pub returns-clause-wanted : goal.returns-clause-wanted
returns-clause-wanted c =
    let slots = slots_in c.args.running.now.slots in
    let over = λ (size : ℕ) (cells : List CellValue) (u : Update).
    IfOk c.test_in.result (λ n. n ≡ wanted_over size (lent_cells slots cells) u) in
    by_with (λ (u : Update). over c.args.shared.now.geometry.numbers.block c.args.shared.now.cells.items u)
    c.args.running.now.request c.update-update.result.now
    (subst₂ (λ (size : ℕ) (cells : List CellValue). over size cells c.update-update.result.now) c.block-block.ensures c.deref_mut.ensures.value
    c.test_in.ensures.wanted)
    c.update-update.ensures
