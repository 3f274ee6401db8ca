use Rattle.std.proofs.Common.{refl}
use Rattle.nv_cell.specs.declared.mark.Mark.TheVariants.{Kept}
use Rattle.nv_cell.specs.Fields.{state_in}
use Rattle.nv_cell.proofs.PartSlots.{parts_begin}
use Rattle.nv_cell.proofs.Remarked.{fields_kept, is_found}
use Rattle.nv_cell.proofs.Remarking.{is_killed}
use Rattle.nv_cell.proofs.cell.InodeCell.retire.Goals as goal

pub find_part-requires-clause-ends : goal.find_part-requires-clause-ends
find_part-requires-clause-ends c = parts_begin c.self.inside c.self.invariant

pub set-requires-clause-there : goal.set-requires-clause-there
set-requires-clause-there c =
    let idle = is_killed (state_in c.self.inside) c.args.part (rw (← c.self.view_is) at c.requires) in
    let found = is_found c.self.inside idle c.unwrap-found.ensures c.find_part.ensures in
    rw found.number idle.there

pub invariant_of-self : goal.invariant_of-self
invariant_of-self c =
    let idle = is_killed (state_in c.self.inside) c.args.part (rw (← c.self.view_is) at c.requires) in
    let found = is_found c.self.inside idle c.unwrap-found.ensures c.find_part.ensures in
    fields_kept Kept c.self.invariant found refl refl c.ends.ensures.value c.set.ensures refl refl refl

pub returns-clause-state : goal.returns-clause-state
returns-clause-state c =
    let idle = is_killed (state_in c.self.inside) c.args.part (rw (← c.self.view_is) at c.requires) in
    let found = is_found c.self.inside idle c.unwrap-found.ensures c.find_part.ensures in
    rw (← c.self.view_is, c.set.ensures.marks, found.number) refl
