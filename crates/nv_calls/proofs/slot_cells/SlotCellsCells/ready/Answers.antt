use Rattle.nv_calls.proofs.LentSlots.{lent_only, lent_value, frame_stays}
use Rattle.nv_calls.proofs.slot_cells.SlotCellsCells.ready.Goals as goal

pub returns-clause-cells : goal.returns-clause-cells
returns-clause-cells c = search (lent_only)

pub returns-clause-ok : goal.returns-clause-ok
returns-clause-ok c = search (lent_value)

pub returns-clause-frame : goal.returns-clause-frame
returns-clause-frame c = search (frame_stays)
