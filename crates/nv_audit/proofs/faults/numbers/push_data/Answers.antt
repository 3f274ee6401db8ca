use Rattle.std.proofs.Common.{◌++◌, List, ℕ, Option, ap, ◌∙◌}
use Rattle.std.specs.List.{flat_map}
use Rattle.nv_alloc.specs.Block.{BlockValue}
use Rattle.nv_cell.specs.Cell.{of_part}
use Rattle.nv_audit.proofs.ImageSlots.{numbers_present}
use Rattle.nv_audit.proofs.faults.numbers.push_data.Goals as goal

pub returns : goal.returns
returns c =
    let old = c.args.numbers.now.items in
    rw (← c.blocks-2.view_is)
    (c.in_ok-push_places.ensures
    ∙ ap (λ (ps : List (Option BlockValue)). old ++ flat_map of_part ps) c.deref.ensures.value
    ∙ ap (λ (ns : List ℕ). old ++ ns) (numbers_present c.blocks-2.inside.places.items))
