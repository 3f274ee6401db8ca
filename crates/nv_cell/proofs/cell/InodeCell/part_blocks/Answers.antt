use Rattle.std.proofs.Common.{ap, sym, flat_map, ◌∙◌, List, Option}
use Rattle.std.specs.Prelude.{option_to_list}
use Rattle.nv_alloc.specs.Block.{BlockValue}
use Rattle.nv_cell.specs.Cell.{of_part}
use Rattle.nv_cell.proofs.PartBlocks.{numbers_by_part, there_by_part}
use Rattle.nv_cell.proofs.cell.InodeCell.part_blocks.Goals as goal

pub returns-clause-blocks : goal.returns-clause-blocks
returns-clause-blocks c =
    let i = c.self.inside in
    rw (← c.self.view_is)
    (ap (λ (slots : List (Option BlockValue)). flat_map option_to_list slots) c.deref.ensures.value
    ∙ sym (there_by_part i.chain.state.entries i.blocks.items c.self.invariant.slots))

pub returns-clause-numbers : goal.returns-clause-numbers
returns-clause-numbers c =
    let i = c.self.inside in
    rw (← c.self.view_is)
    (ap (λ (slots : List (Option BlockValue)). flat_map of_part slots) c.deref.ensures.value
    ∙ sym (numbers_by_part i.chain.state.entries i.blocks.items c.self.invariant.slots))
