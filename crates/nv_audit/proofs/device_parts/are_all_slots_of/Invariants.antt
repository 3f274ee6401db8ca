use Rattle.std.proofs.Common.{ℕ, ◌<◌, get_or}
use Rattle.nv_cell.specs.Cell.{CellValue}
use Rattle.nv_audit.specs.DeviceParts.{IsSlotOf}
use Rattle.nv_audit.proofs.device_parts.are_all_slots_of.Given as goal

abbrev pub invariant-loop-cell : goal.invariant-loop-cell
invariant-loop-cell l = (k : ℕ) (d : CellValue) → k < l.cell-index → IsSlotOf l.geometry.numbers (get_or l.cells k d).state
