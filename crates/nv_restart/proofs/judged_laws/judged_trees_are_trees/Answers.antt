use Rattle.nv_restart.proofs.JudgedNodes.{tree_at, tree_now}
use Rattle.nv_restart.proofs.judged_laws.judged_trees_are_trees.Goals as goal

pub returns : goal.returns
returns c =
    record {
      now = λ s closed trees. tree_now s closed trees;
      at =
          λ s snapshot closed trees has. tree_at s closed trees snapshot has;
    }
