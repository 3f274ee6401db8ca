use Rattle.std.proofs.Common.{◌≤◌, ◌∙◌, ap, arith}
use Rattle.nv_cell.specs.Tallies.{first_slot}
use Rattle.nv_cell.proofs.FirstSlots.{first_slots}
use Rattle.nv_cell.proofs.cell.InodeCell.published_slots.Goals as goal

pub returns : goal.returns
returns c =
    let marks = c.self.inside.marks in
    let chain = c.self.inside.chain.state in
    let most : chain.tail ≤ chain.tail = omega arith in
    rw (← c.self.view_is) (c.first_slot.ensures ∙ ap (first_slot marks.tallies.items) c.tail.ensures.value
    ∙ first_slots marks.tallies.items marks.ends.items marks.marks.items chain.entries chain.tail c.self.invariant.tallied.tallies
    c.self.invariant.ends_len c.self.invariant.ends chain.tail most)
