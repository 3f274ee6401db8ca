use Rattle.std.proofs.Common.{◌++◌, ap, append_assoc, sym, ◌∙◌}
use Rattle.std.specs.Prelude.{option_to_list}
use Rattle.nv_calls.proofs.runs.RunList.pop.Goals as goal

pub returns-clause-items : goal.returns-clause-items
returns-clause-items c =
    let first = option_to_list c.self.inside.first in
    sym c.self.view_is ∙ ap (λ xs. first ++ xs) c.pop.ensures.items ∙ sym (append_assoc first _ _)
