use Rattle.std.proofs.Common.{ap, ◌∙◌, None, slice_index_or}
use Rattle.std.specs.Prelude.{option_and_then}
use Rattle.nv_cell.specs.Fields.{state_in}
use Rattle.nv_cell.proofs.PartSlots.{few_found, parts_begin, slot_found}
use Rattle.nv_cell.proofs.cell.InodeCell.block_of.Goals as goal

pub find_part-requires-clause-ends : goal.find_part-requires-clause-ends
find_part-requires-clause-ends c = parts_begin c.self.inside c.self.invariant

pub slot-requires : goal.slot-requires
slot-requires c = record {
  few = few_found c.self.inside c.self.invariant c.in_ok-found.found c.in_ok-found.ensures.entry;
}

pub returns : goal.returns
returns c =
    let i = c.self.inside in
    let found = c.in_ok-found.ensures in
    let at = slot_found i c.self.invariant c.in_ok-found.found found.entry found.stands c.slot.result
    c.slot.ensures in
    rw (← c.self.view_is) (c.block_at.ensures
    ∙ ap (λ xs. option_and_then (λ n. slice_index_or xs n None) c.slot.result) c.deref.ensures.value ∙ at.reads
    ∙ ap (option_and_then (λ n. slice_index_or (state_in i).blocks n None)) found.number)
