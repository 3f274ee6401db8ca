use Rattle.std.proofs.Common.{◌≡◌, ◌+◌, ◌≤◌, ◌∙◌, ◌∷◌, ◌++◌, [], List, Ok, Err, ap, arith, drop, inl, length, refl, subst, sym}
use Rattle.std.proofs.lemmas.List.{drop_all, drop_more}
use Rattle.std.proofs.lemmas.Result.{err_from_is_err_and}
use Rattle.nv_entry.specs.declared.tree.TreeNode.{TreeNode}
use Rattle.nv_mount_answers.specs.Nodes.{root}
use Rattle.nv_mount_answers.specs.declared.kept.Kept.{Kept}
use Rattle.nv_mount_beside.specs.Beside.{beside_at}
use Rattle.nv_mount_beside.specs.Memory.{no_memory}
use Rattle.nv_mounted.specs.Dialogues.{Ends, Grows, IsHad, ask_each}
use Rattle.nv_mounted.specs.KeptTrees.{ask_kept, ask_path}
use Rattle.nv_mounted.proofs.Asked.{ask_left, left_more, left_none, left_stops, told_same}
use Rattle.nv_mounted.proofs.Dialogues.{stops}
use Rattle.nv_mounted.proofs.kept_tree.ask_all_kept.Goals as goal

pub loop-node-init : goal.loop-node-init
loop-node-init g c =
    let asked = ask_kept c.args.nodes.now in
    let tree = c.args.tree.now in
    let core = c.args.core.now in
    λ end new had. told_same g.C.Core.Tells (ask_each asked tree) core new end (
    subst (λ (told : List Kept). IsHad g.C.Core.Tells (ask_left asked told tree) core end new)
    c.new-all.ensures.items had)

pub returns-in_err-reserve : goal.returns-in_err-reserve
returns-in_err-reserve g c =
    let p = err_from_is_err_and c.from_residual.result c.from_residual.ensures.1 in
    let nodes = c.args.nodes.now in
    let tree = c.args.tree.now in
    let i = c.loop-node.node-index in
    let node = c.node-item.result in
    let rest = drop (i + 1) tree in
    let told = c.loop-node.all.items in
    let core = c.loop-node.core in
    let left : drop i tree ≡ node ∷ rest =
    drop_more tree i node c.loop-node-test.true ∙ ap (λ (n : TreeNode). n ∷ rest) (sym c.node-item.is) in
    rw (p.1, p.2) (c.loop-node.invariant (Err no_memory) core (
    subst (λ (ns : List TreeNode). IsHad g.C.Core.Tells (ask_left (ask_kept nodes) told ns) core
    (Err no_memory) core) (sym left)
    (left_stops g.C.Core.Tells (ask_kept nodes) told node rest core core no_memory
    (stops g.C.Core.Tells (Grows (ask_path root node.path))
    (λ handle. Ends (Ok (beside_at nodes handle).kept)) core core no_memory (inl (refl, refl))))))

pub returns-in_err-kept : goal.returns-in_err-kept
returns-in_err-kept g c =
    let p = err_from_is_err_and c.from_residual-in_err-kept.result
    c.from_residual-in_err-kept.ensures.1 in
    let asked = ask_kept c.args.nodes.now in
    let tree = c.args.tree.now in
    let i = c.loop-node.node-index in
    let node = c.node-item.result in
    let rest = drop (i + 1) tree in
    let told = c.loop-node.all.items in
    let core = c.loop-node.core in
    let new = c.ask_kept.new.core in
    let refusal = c.in_err-kept.field-0.0 in
    let left : drop i tree ≡ node ∷ rest =
    drop_more tree i node c.loop-node-test.true ∙ ap (λ (n : TreeNode). n ∷ rest) (sym c.node-item.is) in
    rw (p.1, p.2) (c.loop-node.invariant (Err refusal) new (
    subst (λ (ns : List TreeNode). IsHad g.C.Core.Tells (ask_left asked told ns) core (Err refusal)
    new) (sym left)
    (left_stops g.C.Core.Tells asked told node rest core new refusal c.in_err-kept.ensures)))

pub loop-node-preserved : goal.loop-node-preserved
loop-node-preserved g c =
    let asked = ask_kept c.args.nodes.now in
    let tree = c.args.tree.now in
    let i = c.loop-node.node-index in
    let node = c.node-item.result in
    let rest = drop (i + 1) tree in
    let told = c.loop-node.all.items in
    let kept = c.in_ok-kept.kept in
    let core = c.loop-node.core in
    let between = c.ask_kept.new.core in
    let left : drop i tree ≡ node ∷ rest =
    drop_more tree i node c.loop-node-test.true ∙ ap (λ (n : TreeNode). n ∷ rest) (sym c.node-item.is) in
    let pushed : c.push.new.self.items ≡ told ++ kept ∷ [] =
    c.in_ok-push.ensures.items ∙ ap (λ (ks : List Kept). ks ++ kept ∷ []) c.in_ok-reserve.ensures.items in
    λ end new had. c.loop-node.invariant end new (
    subst (λ (ns : List TreeNode). IsHad g.C.Core.Tells (ask_left asked told ns) core end new)
    (sym left)
    (left_more g.C.Core.Tells asked told node rest core between new kept end c.in_ok-kept.ensures
    (subst (λ (ks : List Kept). IsHad g.C.Core.Tells (ask_left asked ks rest) between end new) pushed
    had)))

pub returns : goal.returns
returns g c =
    let asked = ask_kept c.args.nodes.now in
    let tree = c.args.tree.now in
    let told = c.loop-node.all.items in
    let core = c.loop-node.core in
    let past : length tree ≤ c.loop-node.node-index = omega (arith, c.loop-node-test.false) in
    let left : drop c.loop-node.node-index tree ≡ [] = drop_all c.loop-node.node-index tree past in
    subst (λ (out : List Kept). IsHad g.C.Core.Tells (ask_each asked tree) c.args.core.now (Ok out) core)
    (sym c.from_vec.ensures)
    (c.loop-node.invariant (Ok told) core (
    subst (λ (ns : List TreeNode). IsHad g.C.Core.Tells (ask_left asked told ns) core (Ok told) core)
    (sym left) (left_none g.C.Core.Tells asked told core)))
