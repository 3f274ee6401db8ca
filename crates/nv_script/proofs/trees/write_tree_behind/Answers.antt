use Rattle.std.proofs.Common.{[]}
use Rattle.nv_script.proofs.Played.{lists_behind, lists_unheaded}
use Rattle.nv_script.proofs.trees.write_tree_behind.Goals as goal

pub returns-in_default-clause-lines : goal.returns-in_default-clause-lines
returns-in_default-clause-lines g c = λ m shown. lists_unheaded c.args.head.now _ _ [] _ c.in_default.ensures.sent

pub returns-clause-lines : goal.returns-clause-lines
returns-clause-lines g c = λ m shown.
    lists_behind c.args.head.now c.write_tree.result _ _ _ _ _ c.in-Ok.ensures.sent (c.write_tree.ensures.lines m shown)
