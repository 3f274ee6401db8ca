-- The walk of a tree: the visits that are still to be made, in order.
use Rattle.std.specs.Prelude.{ℕ, zero, suc, ◌+◌, ◌≡◌, List, [], ◌∷◌, ◌++◌, drop, length, map, sum_by, Option, Some, None, option_and_then, option_map}
use Rattle.std.specs.List.{flat_map}
use Rattle.std.specs.Option.{option_to_list}
use Rattle.nv_base.specs.declared.numbers.Handle.{Handle}
use Rattle.nv_entry.specs.Tree.{names_under, path_below, tree_from}
use Rattle.nv_entry.specs.declared.names.BoundName.{BoundName}
use Rattle.nv_entry.specs.declared.node.NodeCopy.{NodeCopy}
use Rattle.nv_entry.specs.declared.tree.TreeNode.{TreeNode}

-- a handle that a walk is still to visit. A walk is the list of its visits.
pub record Visit : Type 0 where
  -- the names on the way from the walk's root to the handle
  pub path : List (List ℕ)
  -- how many nodes deep the tree may be below the handle
  pub below : ℕ
  -- the handle that is to be visited
  pub handle : Handle

-- the visit of a root from which on the tree may be so many nodes deep
abbrev pub root_visit : ℕ → Handle → List Visit
root_visit zero handle = []
root_visit (suc below) handle = record { path = []; below = below; handle = handle } ∷ []

-- the visits of the names in a directory below which the tree may be so many nodes deep
abbrev pub name_visits : ℕ → List (List ℕ) → List BoundName → List Visit
name_visits zero path names = []
name_visits (suc below) path names = map (λ bound. record { path = path_below path bound.name; below = below; handle = bound.to }) names

-- the handle of the next visit
abbrev pub next_handle : List Visit → Option Handle
next_handle [] = None
next_handle (visit ∷ later) = Some visit.handle

-- the node that is wanted next, where `nodes` gives the node under each handle
abbrev pub wanted_node : (Handle → Option NodeCopy) → List Visit → Option NodeCopy
wanted_node nodes visits = option_and_then nodes (next_handle visits)

-- what goes out for the node of the next visit: the node with its path
abbrev pub given_for : List Visit → Option NodeCopy → Option TreeNode
given_for [] _ = None
given_for (visit ∷ later) found = option_map (λ node. record { path = visit.path; node = node }) found

-- the visits of names below the next visit, and then the later ones
abbrev pub visits_below : List Visit → List BoundName → List Visit
visits_below [] names = []
visits_below (visit ∷ later) names = name_visits visit.below visit.path names ++ later

-- the visits after the next one: those of its node's names first
abbrev pub visits_after : List Visit → Option NodeCopy → List Visit
visits_after visits None = drop 1 visits
visits_after visits (Some node) = visits_below visits node.names

-- the nodes that are still to come: the trees of the visits, one after another
abbrev pub to_come : (Handle → Option NodeCopy) → List Visit → List TreeNode
to_come nodes visits = flat_map (λ visit. tree_from nodes (suc visit.below) visit.path visit.handle) visits

-- how many visits a walk makes from a handle on, at most so many nodes deep
abbrev pub visit_count : (Handle → Option NodeCopy) → ℕ → Handle → ℕ
visit_count nodes zero handle = 0
visit_count nodes (suc depth) handle = sum_by (λ (bound : BoundName). visit_count nodes depth bound.to) (names_under nodes handle) + 1

-- how many visits are still to be made
abbrev pub visits_to_come : (Handle → Option NodeCopy) → List Visit → ℕ
visits_to_come nodes visits = sum_by (λ visit. visit_count nodes (suc visit.below) visit.handle) visits

-- one visit of a walk is made, for which `given` goes out; the visits `left` are still to be made
pub record GivesNext (nodes : Handle → Option NodeCopy) (visits : List Visit) (given : Option TreeNode) (left : List Visit) : Type 0 where
  -- the nodes to come are what goes out, and then those to come of the visits left
  pub next : to_come nodes visits ≡ option_to_list given ++ to_come nodes left
  -- one visit less is still to be made
  pub fewer : visits_to_come nodes visits ≡ visits_to_come nodes left + 1

-- what a walk gives out in so many visits, where the node of each is handed in
abbrev pub given_in : (Handle → Option NodeCopy) → ℕ → List Visit → List TreeNode
given_in nodes zero visits = []
given_in nodes (suc count) visits =
    let node = wanted_node nodes visits in option_to_list (given_for visits node) ++ given_in nodes count (visits_after visits node)

-- the visits that are left after so many more, where the node of each is handed in
abbrev pub left_after : (Handle → Option NodeCopy) → ℕ → List Visit → List Visit
left_after nodes zero visits = visits
left_after nodes (suc count) visits = left_after nodes count (visits_after visits (wanted_node nodes visits))

-- how many names the nodes of a tree have together
abbrev pub name_count : List TreeNode → ℕ
name_count tree = sum_by (λ (t : TreeNode). length t.node.names) tree
