use Rattle.std.proofs.Common.{◌≡◌, Some, ap, sym, ◌∙◌}
use Rattle.std.specs.Option.{option_map}
use Rattle.nv_cell.specs.Cell.{log_of}
use Rattle.nv_cell.specs.Fields.{state_in}
use Rattle.nv_cell.specs.Named.{number_named}
use Rattle.nv_cell.proofs.PartSlots.{parts_begin}
use Rattle.nv_cell.proofs.cell.InodeCell.mark.Goals as goal

pub find_part-requires-clause-ends : goal.find_part-requires-clause-ends
find_part-requires-clause-ends c = parts_begin c.self.inside c.self.invariant

pub returns : goal.returns
returns c =
    let s = state_in c.self.inside in
    let named : number_named (log_of s) c.args.part ≡ Some c.in_ok-found.found.number = sym c.find_part.ensures.number
    ∙ ap (option_map (λ p. p.number)) c.in_ok-found.was in
    rw (← c.self.view_is, named) c.get.ensures
