use Rattle.std.proofs.Common.{List}
use Rattle.nv_cell.specs.Room.{IsReadyFor}
use Rattle.nv_entry.specs.declared.item.Item.{Item}
use Rattle.nv_calls.proofs.LentSlots.{lent_only, lent_step, frame_stays}
use Rattle.nv_calls.proofs.slot_cells.SlotCellsCells.add_page.Goals as goal

pub returns-clause-cells : goal.returns-clause-cells
returns-clause-cells c = search (lent_only)

pub returns-clause-frame : goal.returns-clause-frame
returns-clause-frame c = search (frame_stays)

pub returns-clause-ready : goal.returns-clause-ready
returns-clause-ready c =
    let lent = c.args.self.now in
    let slot = c.slot-slot in
    lent_step lent.slots.now lent.cells.now c.args.k slot.result _ lent.rising c.requires.within slot.ensures.is slot.ensures.there
    (λ old new. (items : List Item) → IsReadyFor items old → IsReadyFor items new) _ c.add_page.ensures.ready
