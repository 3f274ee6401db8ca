use Rattle.std.proofs.Common.{refl, sym, ◌∙◌}
use Rattle.nv_cell.specs.Marks.{is_killed}
use Rattle.nv_cell.specs.declared.mark.Mark.TheVariants.{Out}
use Rattle.nv_audit.proofs.AtRest.{false_not, none_at, none_by_place, not_false}
use Rattle.nv_audit.proofs.at_rest.has_none_killed.Goals as goal

pub returns : goal.returns
returns c =
    let marks = c.args.cell.now.state.marks in (
      λ t. none_at is_killed marks Out refl (sym c.has_killed.ensures ∙ not_false c.has_killed.result t),
      λ none. false_not c.has_killed.result (c.has_killed.ensures ∙ none_by_place is_killed marks Out none),
    )
