-- How many nodes and visits there are, by the names of a world.
use Rattle.std.proofs.Common.{◌≡◌, ◌≢◌, ℕ, zero, suc, ◌+◌, ◌*◌, ◌<◌, ◌≤◌, List, [], ◌∷◌, ◌++◌, length, map, Option, Some, None, true, false, arith, refl, ap, ap₂, sym, ◌∙◌}
use Rattle.std.proofs.Math.Dec.{eqb}
use Rattle.std.proofs.Math.Nat.{mul-le-mul_right}
use Rattle.std.proofs.lemmas.Bool.{ne_eqb}
use Rattle.std.proofs.lemmas.List.{length-map, map-append}
use Rattle.std.proofs.lemmas.List.Concat.{length-flat_map}
use Rattle.std.proofs.lemmas.List.Elements.{All-map, All-weaker, recursion_from_All}
use Rattle.std.proofs.lemmas.List.Sums.{sum_by-cons, sum_by-le, sum_by-le-sum_by}
use Rattle.std.proofs.lemmas.Map.Keys.{IsDistinct-cons}
use Rattle.std.proofs.lemmas.Map.Steps.{length-le_from_distinct_below}
use Rattle.std.specs.List.{AllPairs, Contains, IsDistinct, flat_map, list_any, sum_by}
use Rattle.nv_base.specs.declared.numbers.Handle.{Handle}
use Rattle.nv_entry.specs.Tree.{FormTree, names_of_node, node_and_below, names_under, path_below, root, tree_from}
use Rattle.nv_entry.specs.declared.names.BoundName.{BoundName}
use Rattle.nv_entry.specs.declared.node.NodeCopy.{NodeCopy}
use Rattle.nv_entry.specs.declared.tree.TreeNode.{TreeNode}
use Rattle.nv_reader.specs.Walk.{name_count, root_visit, visit_count, visits_to_come}
use Rattle.nv_reader.specs.Worlds.{HaveAll, HaveAtMost, handle_and_below, handles_from, most_visits, names_of_all}
use Rattle.nv_reader.proofs.Counted.{nodes_are_few, visits_are_few, visits_of_root}
use Rattle.nv_reader.proofs.Elements.{all_from, contains_first, contains_later, pairs_first, pairs_later, sum_within}
use Rattle.nv_reader.proofs.Reached.{none_twice, reached_lives}
use Rattle.nv_reader.proofs.Ways.{below_if_met}

-- ---- the handles beside the nodes

abbrev node_of : TreeNode → Option NodeCopy
node_of t = Some t.node

beside_names : (nodes : Handle → Option NodeCopy) (trees : BoundName → List TreeNode) (handles : BoundName → List Handle)
    (names : List BoundName)
    → ((bound : BoundName) → map node_of (trees bound) ≡ map nodes (handles bound))
    → map node_of (flat_map trees names) ≡ map nodes (flat_map handles names)
beside_names nodes trees handles [] each = refl
beside_names nodes trees handles (bound ∷ names) each =
    map-append node_of (trees bound) (flat_map trees names)
    ∙ ap₂ (λ (xs ys : List (Option NodeCopy)). xs ++ ys) (each bound) (beside_names nodes trees handles names each)
    ∙ sym (map-append nodes (handles bound) (flat_map handles names))

pub nodes_beside : (nodes : Handle → Option NodeCopy) (depth : ℕ) (path : List (List ℕ)) (handle : Handle)
    → map node_of (tree_from nodes depth path handle) ≡ map nodes (handles_from nodes depth handle)
nodes_beside nodes zero path handle = refl
nodes_beside nodes (suc depth) path handle =
    go (nodes handle) refl (λ bound. nodes_beside nodes depth (path_below path bound.name) bound.to) where
      trees : BoundName → List TreeNode
      trees bound = tree_from nodes depth (path_below path bound.name) bound.to

      handles : BoundName → List Handle
      handles bound = handles_from nodes depth bound.to

      go : (found : Option NodeCopy) → nodes handle ≡ found → ((bound : BoundName) → map node_of (trees bound) ≡ map nodes (handles bound))
          → map node_of (node_and_below found path trees) ≡ map nodes (handle_and_below found handle handles)
      go None is each = refl
      go (Some node) is each =
          ap₂ (λ (o : Option NodeCopy) (os : List (Option NodeCopy)). o ∷ os) (sym is) (beside_names nodes trees handles node.names each)

sum_mapped : {X Y : Type 0} (f : Y → ℕ) (g : X → Y) (xs : List X) → sum_by f (map g xs) ≡ sum_by (λ x. f (g x)) xs
sum_mapped f g [] = refl
sum_mapped f g (x ∷ xs) =
    sum_by-cons f (g x) (map g xs) ∙ ap (λ (n : ℕ). f (g x) + n) (sum_mapped f g xs) ∙ sym (sum_by-cons (λ x. f (g x)) x xs)

-- the names of a tree are those of the nodes under its handles
names_beside : (nodes : Handle → Option NodeCopy) (depth : ℕ) (path : List (List ℕ)) (handle : Handle)
    → name_count (tree_from nodes depth path handle) ≡ names_of_all nodes (handles_from nodes depth handle)
names_beside nodes depth path handle =
    let count : Option NodeCopy → ℕ = λ o. length (names_of_node o) in
    sym (sum_mapped count node_of (tree_from nodes depth path handle))
    ∙ ap (sum_by count) (nodes_beside nodes depth path handle)
    ∙ sum_mapped count nodes (handles_from nodes depth handle)

-- ---- where the directories form a tree

distinct_inodes : (handles : List Handle) → AllPairs (λ (one other : Handle). one.ino ≢ other.ino) handles
    → IsDistinct eqb (map (λ (h : Handle). h.ino) handles)
unfolding IsDistinct
distinct_inodes [] differ = tt
distinct_inodes (h ∷ handles) differ =
    IsDistinct-cons eqb h.ino (map (λ (x : Handle). x.ino) handles)
    (recursion_from_All (λ n. eqb h.ino n ≡ false) (map (λ (x : Handle). x.ino) handles)
    (All-map (λ n. eqb h.ino n ≡ false) (λ (x : Handle). x.ino) handles
    (All-weaker (λ (x : Handle). h.ino ≢ x.ino) (λ (x : Handle). eqb h.ino x.ino ≡ false) (λ x ne. ne_eqb h.ino x.ino ne) handles
    (pairs_first (λ (one other : Handle). one.ino ≢ other.ino) h handles differ))))
    (distinct_inodes handles (pairs_later (λ (one other : Handle). one.ino ≢ other.ino) h handles differ))

inodes_below : (inodes : ℕ) (handles : List Handle) → ((h : Handle) → Contains handles h → h.ino < inodes)
    → (q : ℕ) → list_any (eqb q) (map (λ (h : Handle). h.ino) handles) ≡ true → q < inodes
inodes_below inodes [] each q = λ met. cc
inodes_below inodes (h ∷ handles) each q =
    below_if_met inodes q h.ino (map (λ (x : Handle). x.ino) handles) (each h (contains_first h handles))
    (inodes_below inodes handles (λ x at. each x (contains_later x h handles at)) q)

pub nodes_within : (nodes : Handle → Option NodeCopy) (inodes depth : ℕ) → FormTree nodes inodes
    → length (tree_from nodes depth [] root) ≤ inodes
nodes_within nodes inodes depth tree =
    let handles = handles_from nodes depth root in
    let few = length-le_from_distinct_below (map (λ (h : Handle). h.ino) handles) inodes
    (distinct_inodes handles (none_twice nodes inodes depth tree))
    (inodes_below inodes handles (λ h at. tree.numbered h (reached_lives nodes depth h at))) in
    omega (
      arith,
      few,
      length-map handles (λ (h : Handle). h.ino),
      length-map handles nodes,
      length-map (tree_from nodes depth [] root) node_of,
      ap length (nodes_beside nodes depth [] root),
    )

-- the names that a tree has are no more than the world has
names_within : (nodes : Handle → Option NodeCopy) (inodes depth : ℕ) (all : List Handle) → FormTree nodes inodes → HaveAll nodes all
    → name_count (tree_from nodes depth [] root) ≤ names_of_all nodes all
names_within nodes inodes depth all tree have =
    let handles = handles_from nodes depth root in
    let less : names_of_all nodes handles ≤ names_of_all nodes all =
    sum_within (λ (h : Handle). length (names_under nodes h)) handles all
    (λ i j d lt le same. none_twice nodes inodes depth tree i j d lt le (ap (λ (h : Handle). h.ino) same))
    (λ h at. have h (reached_lives nodes depth h at)) in
    omega (arith, less, names_beside nodes depth [] root)

pub visits_within : (nodes : Handle → Option NodeCopy) (inodes depth : ℕ) (all : List Handle) → FormTree nodes inodes → HaveAll nodes all
    → visits_to_come nodes (root_visit depth root) ≤ names_of_all nodes all + 1
visits_within nodes inodes depth all tree have =
    omega (arith, visits_of_root nodes depth root, visits_are_few nodes depth [] root, names_within nodes inodes depth all tree have)

pub nodes_by_names : (nodes : Handle → Option NodeCopy) (inodes depth : ℕ) (all : List Handle) → FormTree nodes inodes → HaveAll nodes all
    → length (tree_from nodes depth [] root) ≤ names_of_all nodes all + 1
nodes_by_names nodes inodes depth all tree have =
    omega (arith, nodes_are_few nodes depth [] root, names_within nodes inodes depth all tree have)

-- ---- in any world

visits_bounded : (nodes : Handle → Option NodeCopy) (most : ℕ) → HaveAtMost nodes most → (depth : ℕ) (handle : Handle)
    → visit_count nodes depth handle ≤ most_visits most depth
visits_bounded nodes most few zero handle = omega arith
visits_bounded nodes most few (suc depth) handle =
    let visits : BoundName → ℕ = λ bound. visit_count nodes depth bound.to in
    let names = names_under nodes handle in
    let below : sum_by visits names ≤ length names * most_visits most depth =
    sum_by-le visits (most_visits most depth) names (all_from (λ bound. visits bound ≤ most_visits most depth) names
    (λ bound at. visits_bounded nodes most few depth bound.to)) in
    omega (arith, below, mul-le-mul_right (most_visits most depth) (few handle))

-- a visit gives out one node at most
nodes_by_visits : (nodes : Handle → Option NodeCopy) (depth : ℕ) (path : List (List ℕ)) (handle : Handle)
    → length (tree_from nodes depth path handle) ≤ visit_count nodes depth handle
nodes_by_visits nodes zero path handle = omega arith
nodes_by_visits nodes (suc depth) path handle =
    go (nodes handle) (λ bound. nodes_by_visits nodes depth (path_below path bound.name) bound.to) where
      trees : BoundName → List TreeNode
      trees bound = tree_from nodes depth (path_below path bound.name) bound.to

      visits : BoundName → ℕ
      visits bound = visit_count nodes depth bound.to

      go : (found : Option NodeCopy) → ((bound : BoundName) → length (trees bound) ≤ visits bound)
          → length (node_and_below found path trees) ≤ sum_by visits (names_of_node found) + 1
      go None each = omega arith
      go (Some node) each =
          let below = sum_by-le-sum_by (λ (bound : BoundName). length (trees bound)) visits node.names each in
          omega (arith, length-flat_map trees node.names, below)

pub most_visits_made : (nodes : Handle → Option NodeCopy) (most depth : ℕ) (handle : Handle) → HaveAtMost nodes most
    → visits_to_come nodes (root_visit depth handle) ≤ most_visits most depth
most_visits_made nodes most depth handle few = omega (arith, visits_of_root nodes depth handle, visits_bounded nodes most few depth handle)

pub most_nodes_given : (nodes : Handle → Option NodeCopy) (most depth : ℕ) (handle : Handle) → HaveAtMost nodes most
    → length (tree_from nodes depth [] handle) ≤ most_visits most depth
most_nodes_given nodes most depth handle few =
    omega (arith, nodes_by_visits nodes depth [] handle, visits_bounded nodes most few depth handle)
