use Rattle.std.proofs.Common.{◌≡◌, refl, ap, ◌∙◌}
use Rattle.std.specs.Option.{option_copied, option_map}
use Rattle.nv_alloc.specs.Block.{number_of}
use Rattle.nv_cell.specs.Fields.{state_in}
use Rattle.nv_cell.specs.Pages.{block_at_page}
use Rattle.nv_cell.specs.Slots.{page_slot}
use Rattle.nv_cell.proofs.PageBlocks.{page_in_slot, page_number_is, page_sized}
use Rattle.nv_cell.proofs.PartSlots.{slots_begin}
use Rattle.nv_cell.proofs.cell.InodeCell.page_now.Goals as goal

pub stretch_from-stretch-requires-clause-slots : goal.stretch_from-stretch-requires-clause-slots
stretch_from-stretch-requires-clause-slots c = slots_begin c.self.inside c.self.invariant

-- the block by the slot of the page's part
found : (c : goal.After-block_at) → option_copied c.block_at.result ≡ block_at_page (state_in c.self.inside) c.args.page
found c =
    let i = c.self.inside in
    let numbers = page_slot i.chain.state.entries i.index in
    c.block_at.ensures
    ∙ rw (c.slot_in.ensures numbers c.stretch_from-stretch.ensures, c.deref.ensures.value, c.from-page.ensures)
    (page_in_slot (state_in i) i.blocks.items i.index c.args.page refl c.self.invariant.slots c.holds_together.ensures.rising
    c.self.invariant.refs)

pub returns-clause-block : goal.returns-clause-block
returns-clause-block c = rw (← c.self.view_is) (found c)

pub returns-clause-number : goal.returns-clause-number
returns-clause-number c =
    let s = state_in c.self.inside in
    let inv = c.self.invariant in
    rw (← c.self.view_is)
    (ap (option_map number_of) (found c) ∙ page_number_is s c.args.page c.holds_together.ensures.rising inv.marks inv.blocks)

pub returns-clause-sized : goal.returns-clause-sized
returns-clause-sized c =
    let s = state_in c.self.inside in
    rw (← c.self.view_is, found c) (page_sized s c.args.page c.holds_together.ensures.rising c.self.invariant.blocks.sized)
