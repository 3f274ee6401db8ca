use Rattle.std.proofs.Common.{ℕ, ◌<◌, get_or}
use Rattle.nv_cell.specs.Cell.{CellValue}
use Rattle.nv_audit.specs.Resting.{IsOfPast}
use Rattle.nv_audit.proofs.resting.are_of_past.Given as goal

abbrev pub invariant-loop-cell : goal.invariant-loop-cell
invariant-loop-cell l = (k : ℕ) (d : CellValue) → k < l.cell-index → IsOfPast l.book.state (get_or l.cells k d).state
