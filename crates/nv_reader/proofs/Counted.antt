-- How many visits a walk makes, by the names of the nodes that it gives out.
use Rattle.std.proofs.Common.{◌≡◌, ℕ, zero, suc, ◌+◌, ◌≤◌, List, [], ◌∷◌, length, Option, Some, None, arith, refl, ap}
use Rattle.std.proofs.lemmas.List.{length-append}
use Rattle.std.proofs.lemmas.List.Sums.{sum_by-append, sum_by-cons}
use Rattle.std.proofs.lemmas.List.Concat.{flat_map-cons}
use Rattle.std.specs.List.{flat_map, sum_by}
use Rattle.nv_base.specs.declared.numbers.Handle.{Handle}
use Rattle.nv_entry.specs.Tree.{names_of_node, node_and_below, path_below, tree_from}
use Rattle.nv_entry.specs.declared.names.BoundName.{BoundName}
use Rattle.nv_entry.specs.declared.node.NodeCopy.{NodeCopy}
use Rattle.nv_entry.specs.declared.tree.TreeNode.{TreeNode}
use Rattle.nv_reader.specs.Walk.{Visit, name_count, root_visit, visit_count, visits_to_come}

-- what stands below some names has at most as many visits as these names, and those of the nodes there
below_names : (visits : BoundName → ℕ) (trees : BoundName → List TreeNode) (names : List BoundName)
    → ((bound : BoundName) → visits bound ≤ name_count (trees bound) + 1)
    → sum_by visits names ≤ name_count (flat_map trees names) + length names
below_names visits trees [] each = omega arith
below_names visits trees (bound ∷ names) each =
    let rest = below_names visits trees names each in
    let one = each bound in
    let whole = ap name_count (flat_map-cons trees bound names) in
    let parts = sum_by-append (λ (t : TreeNode). length t.node.names) (trees bound) (flat_map trees names) in
    omega (arith, rest, one, sum_by-cons visits bound names, whole, parts)

below_node : (found : Option NodeCopy) (path : List (List ℕ)) (visits : BoundName → ℕ) (trees : BoundName → List TreeNode)
    → ((bound : BoundName) → visits bound ≤ name_count (trees bound) + 1)
    → sum_by visits (names_of_node found) + 1 ≤ name_count (node_and_below found path trees) + 1
below_node None path visits trees each = omega arith
below_node (Some node) path visits trees each =
    omega (
      arith,
      below_names visits trees node.names each,
      sum_by-cons (λ (t : TreeNode). length t.node.names) (record { path = path; node = node }) (flat_map trees node.names),
    )

pub visits_are_few : (nodes : Handle → Option NodeCopy) (depth : ℕ) (path : List (List ℕ)) (handle : Handle)
    → visit_count nodes depth handle ≤ name_count (tree_from nodes depth path handle) + 1
visits_are_few nodes zero path handle = omega arith
visits_are_few nodes (suc depth) path handle =
    below_node (nodes handle) path (λ bound. visit_count nodes depth bound.to)
    (λ bound. tree_from nodes depth (path_below path bound.name) bound.to)
    (λ bound. visits_are_few nodes depth (path_below path bound.name) bound.to)

-- the nodes below some names are no more than these names, and those of the nodes there
nodes_below : (trees : BoundName → List TreeNode) (names : List BoundName)
    → ((bound : BoundName) → length (trees bound) ≤ name_count (trees bound) + 1)
    → length (flat_map trees names) ≤ name_count (flat_map trees names) + length names
nodes_below trees [] each = omega arith
nodes_below trees (bound ∷ names) each =
    let rest = nodes_below trees names each in
    let one = each bound in
    let whole = ap name_count (flat_map-cons trees bound names) in
    let long = ap (λ (ts : List TreeNode). length ts) (flat_map-cons trees bound names) in
    let parts = sum_by-append (λ (t : TreeNode). length t.node.names) (trees bound) (flat_map trees names) in
    omega (arith, rest, one, whole, long, parts, length-append (trees bound) (flat_map trees names))

nodes_of : (found : Option NodeCopy) (path : List (List ℕ)) (trees : BoundName → List TreeNode)
    → ((bound : BoundName) → length (trees bound) ≤ name_count (trees bound) + 1)
    → length (node_and_below found path trees) ≤ name_count (node_and_below found path trees) + 1
nodes_of None path trees each = omega arith
nodes_of (Some node) path trees each =
    omega (
      arith,
      nodes_below trees node.names each,
      sum_by-cons (λ (t : TreeNode). length t.node.names) (record { path = path; node = node }) (flat_map trees node.names),
    )

pub nodes_are_few : (nodes : Handle → Option NodeCopy) (depth : ℕ) (path : List (List ℕ)) (handle : Handle)
    → length (tree_from nodes depth path handle) ≤ name_count (tree_from nodes depth path handle) + 1
nodes_are_few nodes zero path handle = omega arith
nodes_are_few nodes (suc depth) path handle =
    nodes_of (nodes handle) path (λ bound. tree_from nodes depth (path_below path bound.name) bound.to)
    (λ bound. nodes_are_few nodes depth (path_below path bound.name) bound.to)

-- a new walk has the visits of its root to make
pub visits_of_root : (nodes : Handle → Option NodeCopy) (depth : ℕ) (root : Handle)
    → visits_to_come nodes (root_visit depth root) ≡ visit_count nodes depth root
visits_of_root nodes zero root = refl
visits_of_root nodes (suc depth) root =
    omega (
      arith,
      sum_by-cons (λ (v : Visit). visit_count nodes (suc v.below) v.handle)
          (record { path = []; below = depth; handle = root }) [],
    )
