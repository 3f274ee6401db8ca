use Rattle.std.proofs.Common.{None, arith, refl, ap, ◌∙◌, slice_index_or}
use Rattle.nv_cell.specs.declared.mark.Mark.TheVariants.{Out}
use Rattle.nv_cell.specs.Fields.{state_in}
use Rattle.nv_cell.specs.Slots.{by_part}
use Rattle.nv_cell.proofs.Held.{held_out, told_out}
use Rattle.nv_cell.proofs.PartSlots.{few_found, parts_begin, slot_found}
use Rattle.nv_cell.proofs.Remarked.{fields_out, is_found}
use Rattle.nv_cell.proofs.Remarking.{is_idle}
use Rattle.nv_cell.proofs.cell.InodeCell.release.Goals as goal

pub find_part-requires-clause-ends : goal.find_part-requires-clause-ends
find_part-requires-clause-ends c = parts_begin c.self.inside c.self.invariant

pub set-requires-clause-there : goal.set-requires-clause-there
set-requires-clause-there c =
    let idle = is_idle (state_in c.self.inside) c.args.part (rw (← c.self.view_is) at c.requires) in
    let found = is_found c.self.inside idle c.unwrap-found.ensures c.find_part.ensures in
    rw found.number idle.there

pub slot-slot-requires : goal.slot-slot-requires
slot-slot-requires c =
    let i = c.self.inside in
    let idle = is_idle (state_in i) c.args.part (rw (← c.self.view_is) at c.requires) in
    let found = is_found i idle c.unwrap-found.ensures c.find_part.ensures in
    record { few = few_found i c.self.invariant c.unwrap-found.result found.entry }

pub take_block-block-requires : goal.take_block-block-requires
take_block-block-requires c =
    let i = c.self.inside in
    let idle = is_idle (state_in i) c.args.part (rw (← c.self.view_is) at c.requires) in
    let found = is_found i idle c.unwrap-found.ensures c.find_part.ensures in
    let at = slot_found i c.self.invariant c.unwrap-found.result found.entry found.stands c.slot-slot.result c.slot-slot.ensures in
    at.within

pub invariant_of-self : goal.invariant_of-self
invariant_of-self c =
    let i = c.self.inside in
    let idle = is_idle (state_in i) c.args.part (rw (← c.self.view_is) at c.requires) in
    let found = is_found i idle c.unwrap-found.ensures c.find_part.ensures in
    let at = slot_found i c.self.invariant c.unwrap-found.result found.entry found.stands c.slot-slot.result c.slot-slot.ensures in
    fields_out Out c.self.invariant found refl refl c.ends.ensures.value c.set.ensures refl at
    c.take_block-block.ensures.slots c.take_block-block.ensures.capacity
    (let out = told_out (c.take_block-block.ensures.block ∙ at.reads) c.is_some.ensures c.from.ensures in
    omega (arith, out, c.self.invariant.held, held_out (state_in i).blocks c.unwrap-found.result.number))

pub returns : goal.returns
returns c =
    let i = c.self.inside in
    let s = state_in i in
    let idle = is_idle s c.args.part (rw (← c.self.view_is) at c.requires) in
    let found = is_found i idle c.unwrap-found.ensures c.find_part.ensures in
    let at = slot_found i c.self.invariant c.unwrap-found.result found.entry found.stands c.slot-slot.result c.slot-slot.ensures in
    let blocks = ap (by_part s.chain.entries) c.take_block-block.ensures.slots ∙ at.leaves in
    rw (← c.self.view_is) (record {
      block = c.take_block-block.ensures.block ∙ at.reads ∙ ap (λ k. slice_index_or s.blocks k None) found.number;
      state = rw (c.set.ensures.marks, blocks, found.number) refl;
      room = refl;
    })

pub overflow_sub-self : goal.overflow_sub-self
overflow_sub-self c =
    let i = c.self.inside in
    let idle = is_idle (state_in i) c.args.part (rw (← c.self.view_is) at c.requires) in
    let found = is_found i idle c.unwrap-found.ensures c.find_part.ensures in
    let at = slot_found i c.self.invariant c.unwrap-found.result found.entry found.stands c.slot-slot.result c.slot-slot.ensures in
    let out = told_out (c.take_block-block.ensures.block ∙ at.reads) c.is_some.ensures c.from.ensures in
    omega (arith, out, c.self.invariant.held, held_out (state_in i).blocks c.unwrap-found.result.number)
