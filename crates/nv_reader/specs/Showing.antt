-- A show that goes on: the visits that it may still make, and the nodes that it has seen.
use Rattle.std.specs.Prelude.{ℕ, ◌-◌, ◌==◌, ◌||◌, ◌++◌, Bool, is_none, List, [], ◌∷◌, Option, Some, None}
use Rattle.std.specs.Option.{option_to_list}
use Rattle.nv_base.specs.declared.limits.TheConstants.{INODES}
use Rattle.nv_base.specs.declared.numbers.Handle.{Handle}
use Rattle.nv_entry.specs.Tree.{root}
use Rattle.nv_entry.specs.declared.node.NodeCopy.{NodeCopy}
use Rattle.nv_entry.specs.declared.tree.TreeNode.{TreeNode}
use Rattle.nv_reader.specs.Walk.{Visit, given_for, next_handle, root_visit, visits_after}

-- what contracts see of a show
pub record Showing : Type 0 where
  -- how many visits it may make yet
  pub left : ℕ
  -- the visits that are to come, the next one first
  pub visits : List Visit
  -- the nodes that it has seen, each with its path, in the order of the visits
  pub seen : List TreeNode

-- a show before its first visit, which is that of the root. It makes
-- no more visits than there can be inodes.
abbrev pub new_showing : ℕ → Showing
new_showing depth = record { left = INODES; visits = root_visit depth root; seen = [] }

-- the visits to come of a show: where it has no walk yet, that of the root
abbrev pub visits_from : ℕ → Option (List Visit) → List Visit
visits_from depth None = root_visit depth root
visits_from depth (Some walk) = walk

-- whether all visits are made
abbrev pub is_over : Showing → Bool
is_over showing = (showing.left == 0) || is_none (next_handle showing.visits)

-- the handle of the next visit
abbrev pub visited : List Visit → Handle
visited [] = root
visited (visit ∷ visits) = visit.handle

-- a show after its next visit: the node that was found is seen, and its names are visited next
abbrev pub seen_on : Option NodeCopy → Showing → Showing
seen_on found showing = record {
  left = showing.left - 1;
  visits = visits_after showing.visits found;
  seen = showing.seen ++ option_to_list (given_for showing.visits found);
}
