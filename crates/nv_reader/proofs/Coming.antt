-- What is still to come of a tree, as the next visit's node is handed in.
use Rattle.std.proofs.Common.{◌≡◌, ℕ, zero, suc, ◌+◌, ◌≤◌, List, [], ◌∷◌, ◌++◌, map, Option, Some, None, IsSome, arith, refl, ap, sym, ◌∙◌}
use Rattle.std.proofs.lemmas.Grind.{flat_map-append}
use Rattle.std.proofs.lemmas.List.{append-nil}
use Rattle.std.proofs.lemmas.List.Sums.{sum_by-append, sum_by-cons}
use Rattle.std.specs.List.{flat_map, sum_by}
use Rattle.std.specs.Option.{option_to_list}
use Rattle.nv_base.specs.declared.numbers.Handle.{Handle}
use Rattle.nv_entry.specs.Tree.{names_of_node, node_and_below, path_below, tree_from}
use Rattle.nv_entry.specs.declared.names.BoundName.{BoundName}
use Rattle.nv_entry.specs.declared.node.NodeCopy.{NodeCopy}
use Rattle.nv_entry.specs.declared.tree.TreeNode.{TreeNode}
use Rattle.nv_reader.specs.Walk.{GivesNext, Visit, given_for, given_in, left_after, name_visits, next_handle, root_visit, to_come, visit_count, visits_after, visits_to_come, wanted_node}

pub whole : (nodes : Handle → Option NodeCopy) (depth : ℕ) (root : Handle)
    → to_come nodes (root_visit depth root) ≡ tree_from nodes depth [] root
whole nodes zero root = refl
whole nodes (suc below) root = append-nil (tree_from nodes (suc below) [] root)

-- where the tree may be no deeper, names have nothing in it
none_below : (names : List BoundName) → flat_map (λ (bound : BoundName). let none : List TreeNode = [] in none) names ≡ []
none_below [] = refl
none_below (bound ∷ names) = none_below names

no_visits_below : (names : List BoundName) → sum_by (λ (bound : BoundName). 0) names ≡ 0
no_visits_below [] = refl
no_visits_below (bound ∷ names) = omega (arith, no_visits_below names)

names_to_come : (nodes : Handle → Option NodeCopy) (below : ℕ) (path : List (List ℕ)) (names : List BoundName)
    → flat_map (λ (bound : BoundName). tree_from nodes below (path_below path bound.name) bound.to) names
    ≡ to_come nodes (name_visits below path names)
names_to_come nodes zero path names = none_below names
names_to_come nodes (suc below) path [] = refl
names_to_come nodes (suc below) path (bound ∷ names) =
    ap (λ trees. tree_from nodes (suc below) (path_below path bound.name) bound.to ++ trees) (names_to_come nodes (suc below) path names)

name_count : (nodes : Handle → Option NodeCopy) (below : ℕ) (path : List (List ℕ)) (names : List BoundName)
    → sum_by (λ (bound : BoundName). visit_count nodes below bound.to) names ≡ visits_to_come nodes (name_visits below path names)
name_count nodes zero path names = no_visits_below names
name_count nodes (suc below) path [] = refl
name_count nodes (suc below) path (bound ∷ names) =
    let f : BoundName → ℕ = λ b. visit_count nodes (suc below) b.to in
    let visit : BoundName → Visit = λ b. record { path = path_below path b.name; below = below; handle = b.to } in
    let g : Visit → ℕ = λ v. visit_count nodes (suc v.below) v.handle in
    sum_by-cons f bound names ∙ ap (λ n. f bound + n) (name_count nodes (suc below) path names)
    ∙ sym (sum_by-cons g (visit bound) (map visit names))

-- what is left after the next visit, by its node
next_of : (nodes : Handle → Option NodeCopy) (visit : Visit) (later : List Visit) (found : Option NodeCopy)
    → node_and_below found visit.path (λ bound. tree_from nodes visit.below (path_below visit.path bound.name) bound.to)
    ++ to_come nodes later
    ≡ option_to_list (given_for (visit ∷ later) found) ++ to_come nodes (visits_after (visit ∷ later) found)
next_of nodes visit later None = refl
next_of nodes visit later (Some node) =
    ap (λ trees. record { path = visit.path; node = node } ∷ (trees ++ to_come nodes later))
    (names_to_come nodes visit.below visit.path node.names)
    ∙ ap (λ trees. record { path = visit.path; node = node } ∷ trees)
    (sym (flat_map-append (λ (v : Visit). tree_from nodes (suc v.below) v.path v.handle)
    (name_visits visit.below visit.path node.names) later))

fewer_of : (nodes : Handle → Option NodeCopy) (visit : Visit) (later : List Visit) (found : Option NodeCopy)
    → (sum_by (λ (bound : BoundName). visit_count nodes visit.below bound.to) (names_of_node found) + 1) + visits_to_come nodes later
    ≡ visits_to_come nodes (visits_after (visit ∷ later) found) + 1
fewer_of nodes visit later None = omega arith
fewer_of nodes visit later (Some node) =
    let f : Visit → ℕ = λ v. visit_count nodes (suc v.below) v.handle in
    omega (arith, name_count nodes visit.below visit.path node.names, sum_by-append f (name_visits visit.below visit.path node.names) later)

gives_next : (nodes : Handle → Option NodeCopy) (visit : Visit) (later : List Visit)
    → GivesNext nodes (visit ∷ later) (given_for (visit ∷ later) (nodes visit.handle)) (visits_after (visit ∷ later) (nodes visit.handle))
gives_next nodes visit later = record {
  next = next_of nodes visit later (nodes visit.handle);
  fewer = sum_by-cons (λ (v : Visit). visit_count nodes (suc v.below) v.handle) visit later
      ∙ fewer_of nodes visit later (nodes visit.handle);
}

-- the same of any walk that has visits to make
pub handed_next : (nodes : Handle → Option NodeCopy) (visits : List Visit) (node : Option NodeCopy)
    (given : Option TreeNode) (left : List Visit)
    → IsSome (next_handle visits) → node ≡ wanted_node nodes visits → given ≡ given_for visits node → left ≡ visits_after visits node
    → GivesNext nodes visits given left
handed_next nodes [] _ given left some found is rest = cc
handed_next nodes (visit ∷ later) _ given left some found is rest =
    rw (is, rest, found) (gives_next nodes visit later)

-- ---- whole walks

none_to_come : (nodes : Handle → Option NodeCopy) (visits : List Visit) → visits_to_come nodes visits ≡ 0 → visits ≡ []
none_to_come nodes [] none = refl
none_to_come nodes (visit ∷ later) none =
    absurd (omega (arith, none, sum_by-cons (λ (v : Visit). visit_count nodes (suc v.below) v.handle) visit later))

-- a walk that makes as many visits as it has to make, or more
pub record IsWhole (nodes : Handle → Option NodeCopy) (count : ℕ) (visits : List Visit) : Type 0 where
  pub given : given_in nodes count visits ≡ to_come nodes visits
  pub left : left_after nodes count visits ≡ []

pub whole_walk : (nodes : Handle → Option NodeCopy) (count : ℕ) (visits : List Visit) → visits_to_come nodes visits ≤ count
    → IsWhole nodes count visits
whole_walk nodes zero visits enough =
    let none : visits ≡ [] = none_to_come nodes visits (omega (arith, enough)) in
    record { given = sym (ap (to_come nodes) none); left = none }
whole_walk nodes (suc count) [] enough =
    let rest = whole_walk nodes count [] (omega arith) in
    record { given = rest.given; left = rest.left }
whole_walk nodes (suc count) (visit ∷ later) enough =
    let next = gives_next nodes visit later in
    let left = visits_after (visit ∷ later) (nodes visit.handle) in
    let rest = whole_walk nodes count left (omega (arith, enough, next.fewer)) in
    record {
      given = ap (λ trees. option_to_list (given_for (visit ∷ later) (nodes visit.handle)) ++ trees) rest.given ∙ sym next.next;
      left = rest.left;
    }

pub whole_tree : (nodes : Handle → Option NodeCopy) (depth count : ℕ) (root : Handle) → visits_to_come nodes (root_visit depth root) ≤ count
    → given_in nodes count (root_visit depth root) ≡ tree_from nodes depth [] root
whole_tree nodes depth count root enough = (whole_walk nodes count (root_visit depth root) enough).given ∙ whole nodes depth root

pub whole_end : (nodes : Handle → Option NodeCopy) (depth count : ℕ) (root : Handle) → visits_to_come nodes (root_visit depth root) ≤ count
    → left_after nodes count (root_visit depth root) ≡ []
whole_end nodes depth count root enough = (whole_walk nodes count (root_visit depth root) enough).left
