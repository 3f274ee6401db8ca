use Rattle.std.proofs.Common.{ℕ, Option, subst, sym}
use Rattle.nv_core.specs.Settled.{snapshot_tree, tree_of}
use Rattle.nv_epoch.specs.SnapList.{pins_of}
use Rattle.nv_script.specs.Play.{nodes_at}
use Rattle.nv_script.specs.Results.{IsTree}
use Rattle.nv_trace.proofs.JsonActs.{tree_now, tree_then}
use Rattle.nv_trace.proofs.json_act.tree_of.Goals as goal

pub returns-in-None : goal.returns-in-None
returns-in-None c m shows =
    subst (λ (o : Option ℕ). IsTree (nodes_at m o) c.tree.result) (sym c.in-None.is)
    (tree_now (tree_of m) c.tree.result (c.tree.ensures.ok m shows) c.tree.ensures.err)

pub returns-in-Some : goal.returns-in-Some
returns-in-Some c m shows =
    let snapshot = c.in-Some.snapshot in
    subst (λ (o : Option ℕ). IsTree (nodes_at m o) c.snap_tree.result) (sym c.in-Some.is)
    (tree_then (snapshot_tree m snapshot) (pins_of m.shared.book.snaps snapshot) c.snap_tree.result (c.snap_tree.ensures.ok m shows)
    (c.snap_tree.ensures.err m shows))
