use Rattle.std.proofs.Common.{List, subst, ◌∙◌}
use Rattle.std.specs.Prelude.{IfOk, IsTrue, ◌↔◌}
use Rattle.nv_audit.specs.Logged.{AreLoggedTrees, LoggedValue}
use Rattle.nv_audit.specs.Records.{states_of}
use Rattle.nv_audit.proofs.LoggedCells.{told_of_cells}
use Rattle.nv_audit.proofs.nodes.form_trees.Goals as goal

pub returns-clause-ok : goal.returns-clause-ok
returns-clause-ok c =
    told_of_cells (states_of c.args.cells.now) c.args.snapshots.now c.form_trees_of.result
    (subst (λ (ls : List LoggedValue). IfOk c.form_trees_of.result (λ form. IsTrue form ↔ AreLoggedTrees c.args.snapshots.now ls))
    (c.deref.ensures.value ∙ c.in_ok-logs.ensures) c.form_trees_of.ensures.ok)
