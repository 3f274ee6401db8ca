use Rattle.std.proofs.Common.{ℕ, List, subst, ◌∙◌}
use Rattle.std.specs.Prelude.{◌↔◌, IfOk, IsTrue}
use Rattle.nv_audit.specs.Nodes.{AreTrees}
use Rattle.nv_audit.specs.Records.{states_of}
use Rattle.nv_audit.proofs.resting.have_trees.Goals as goal

pub returns-clause-ok : goal.returns-clause-ok
returns-clause-ok c =
    subst (λ (ss : List ℕ). IfOk c.form_trees.result (λ trees. IsTrue trees ↔ AreTrees ss (states_of c.args.cells.now)))
    (c.deref.ensures.value ∙ c.in_ok-snapshots.ensures) c.form_trees.ensures.ok
