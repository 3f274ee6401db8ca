use Rattle.std.proofs.Common.{◌∙◌, ℕ, ap, take}
use Rattle.nv_core.proofs.FreshBlocks.{slot_closed}
use Rattle.nv_core.proofs.stop.slot_of.Goals as goal

pub returns : goal.returns
returns c =
    let bare = c.into_bare-bare.result in
    let is = c.into_bare-bare.ensures in
    c.close_slot.ensures
    ∙ slot_closed c.args.cell.state bare c.cut_places.new.places.items is.generation is.chain is.blocks is.slots
    (c.cut_places.ensures ∙ ap (λ (n : ℕ). take n bare.blocks.items) c.published_slots-published.ensures)
