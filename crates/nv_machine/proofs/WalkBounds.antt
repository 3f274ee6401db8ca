-- Where every name leads to a node, a walk makes as many visits as it gives out nodes; so a tree of so
-- many inodes has no more.
use Rattle.std.proofs.Common.{◌≡◌, ℕ, zero, suc, ◌+◌, ◌≤◌, List, [], ◌∷◌, length, Option, Some, None, IsSome, ap, arith, refl, subst, sym}
use Rattle.std.specs.List.{Contains, flat_map, sum_by}
use Rattle.std.proofs.lemmas.List.{length-append}
use Rattle.std.proofs.lemmas.List.Concat.{flat_map-cons}
use Rattle.std.proofs.lemmas.List.Sums.{sum_by-cons}
use Rattle.nv_base.specs.declared.numbers.Handle.{Handle}
use Rattle.nv_entry.specs.Tree.{FormTree, names_of_node, node_and_below, names_under, path_below, root, tree_from}
use Rattle.nv_entry.specs.declared.names.BoundName.{BoundName}
use Rattle.nv_entry.specs.declared.node.NodeCopy.{NodeCopy}
use Rattle.nv_entry.specs.declared.tree.TreeNode.{TreeNode}
use Rattle.nv_machine.specs.Directories.{HasName}
use Rattle.nv_reader.specs.Walk.{root_visit, visit_count, visits_to_come}
use Rattle.nv_reader.proofs.Counted.{visits_of_root}
use Rattle.nv_reader.proofs.Elements.{contains_first, contains_later}
use Rattle.nv_reader.proofs.Worlds.{nodes_within}

module _ (nodes : Handle → Option NodeCopy)
    (leads : (dir : Handle) (bound : BoundName) → HasName nodes dir bound → IsSome (nodes bound.to)) where
  names_few : (depth : ℕ) (path : List (List ℕ)) (names : List BoundName)
      → ((bound : BoundName) → Contains names bound
      → visit_count nodes depth bound.to ≤ length (tree_from nodes depth (path_below path bound.name) bound.to))
      → sum_by (λ (bound : BoundName). visit_count nodes depth bound.to) names
      ≤ length (flat_map (λ (bound : BoundName). tree_from nodes depth (path_below path bound.name) bound.to) names)
  names_few depth path [] each = omega arith
  names_few depth path (bound ∷ names) each =
      let f : BoundName → ℕ = λ b. visit_count nodes depth b.to in
      let g : BoundName → List TreeNode = λ b. tree_from nodes depth (path_below path b.name) b.to in
      let first = each bound (contains_first bound names) in
      let rest = names_few depth path names (λ b at. each b (contains_later b bound names at)) in
      omega (
        arith,
        sum_by-cons f bound names,
        first,
        rest,
        ap (λ (ts : List TreeNode). length ts) (flat_map-cons g bound names),
        length-append (g bound) (flat_map g names),
      )

  visits_few : (depth : ℕ) (path : List (List ℕ)) (handle : Handle) → IsSome (nodes handle)
      → visit_count nodes depth handle ≤ length (tree_from nodes depth path handle)
  visits_few zero path handle some = omega arith
  visits_few (suc depth) path handle some =
      go (nodes handle) refl some (λ bound at. visits_few depth (path_below path bound.name) bound.to (leads handle bound at))
    where
      go : (o : Option NodeCopy) → nodes handle ≡ o → IsSome o
          → ((bound : BoundName) → Contains (names_under nodes handle) bound
          → visit_count nodes depth bound.to ≤ length (tree_from nodes depth (path_below path bound.name) bound.to))
          → sum_by (λ (bound : BoundName). visit_count nodes depth bound.to) (names_of_node o) + 1
          ≤ length (node_and_below o path (λ bound. tree_from nodes depth (path_below path bound.name) bound.to))
      go None q there each = cc
      go (Some node) q there each =
          let few = names_few depth path node.names
          (λ bound at. each bound (subst (λ (o : Option NodeCopy). Contains (names_of_node o) bound) (sym q) at)) in
          omega (arith, few)

  -- from the root on
  pub root_few : (inodes depth : ℕ) → FormTree nodes inodes → IsSome (nodes root) → visits_to_come nodes (root_visit depth root) ≤ inodes
  root_few inodes depth tree some =
      omega (arith, visits_of_root nodes depth root, visits_few depth [] root some, nodes_within nodes inodes depth tree)
