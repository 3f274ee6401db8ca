use Rattle.std.proofs.Common.{List, Ok, Err, refl, subst}
use Rattle.std.proofs.lemmas.Result.{err_from_is_err_and}
use Rattle.nv_entry.specs.declared.tree.TreeNode.{TreeNode}
use Rattle.nv_mounted.specs.Dialogues.{IsHad, ask_each}
use Rattle.nv_mounted.specs.KeptTrees.{ask_kept, ask_tree}
use Rattle.nv_mounted.proofs.Dialogues.{goes_on, stops}
use Rattle.nv_mounted.proofs.kept_tree.ask_kept_tree.Goals as goal

pub returns-in_err-tree : goal.returns-in_err-tree
returns-in_err-tree g c =
    let p = err_from_is_err_and c.from_residual.result c.from_residual.ensures.1 in
    rw (p.1, p.2) (stops g.C.Core.Tells (ask_tree c.args.epoch) _ _ _ _ c.in_err-tree.ensures)

pub returns-in_err-kept : goal.returns-in_err-kept
returns-in_err-kept g c =
    let p = err_from_is_err_and c.from_residual-in_err-kept.result
    c.from_residual-in_err-kept.ensures.1 in
    let tree = c.in_ok-tree.tree in
    let nodes = c.args.nodes.now in
    let had = rw c.as_slice.ensures at c.in_err-kept.ensures in
    rw (p.1, p.2) (
    goes_on g.C.Core.Tells (ask_tree c.args.epoch) _ _ _ _ tree _ c.in_ok-tree.ensures (
    stops g.C.Core.Tells (ask_each (ask_kept nodes) tree) _ _ _ _ had))

pub returns : goal.returns
returns g c =
    let tree = c.in_ok-tree.tree in
    let nodes = c.args.nodes.now in
    let had = rw c.as_slice.ensures at c.in_ok-kept.ensures in
    goes_on g.C.Core.Tells (ask_tree c.args.epoch) _ _ _ _ tree _ c.in_ok-tree.ensures (
    goes_on g.C.Core.Tells (ask_each (ask_kept nodes) tree) _ _ _ _ c.in_ok-kept.kept _ had
    (refl, refl))
