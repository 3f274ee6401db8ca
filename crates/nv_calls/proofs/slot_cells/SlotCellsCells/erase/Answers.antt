use Rattle.nv_calls.proofs.LentSlots.{frame_stays, lent_only}
use Rattle.nv_calls.proofs.slot_cells.SlotCellsCells.erase.Goals as goal

pub returns-clause-cells : goal.returns-clause-cells
returns-clause-cells c = search (lent_only)

pub returns-clause-frame : goal.returns-clause-frame
returns-clause-frame c = search (frame_stays)
