-- The inodes that a tree reaches, and how many names a world has.
use Rattle.std.specs.Prelude.{ℕ, zero, suc, ◌+◌, ◌*◌, ◌≤◌, List, [], ◌∷◌, Contains, length, sum_by, Option, Some, None, IsSome}
use Rattle.std.specs.List.{flat_map}
use Rattle.nv_base.specs.declared.numbers.Handle.{Handle}
use Rattle.nv_entry.specs.Tree.{names_under}
use Rattle.nv_entry.specs.declared.names.BoundName.{BoundName}
use Rattle.nv_entry.specs.declared.node.NodeCopy.{NodeCopy}

-- a handle, and then those below each name of its node, in their order
abbrev pub handle_and_below : Option NodeCopy → Handle → (BoundName → List Handle) → List Handle
handle_and_below None handle below = []
handle_and_below (Some node) handle below = handle ∷ flat_map below node.names

-- the handles of the nodes of a tree from a handle on, at most so
-- many nodes deep, in the order of the tree
abbrev pub handles_from : (Handle → Option NodeCopy) → ℕ → Handle → List Handle
handles_from nodes zero handle = []
handles_from nodes (suc depth) handle = handle_and_below (nodes handle) handle (λ bound. handles_from nodes depth bound.to)

-- each node stands under one of these handles
abbrev pub HaveAll : (Handle → Option NodeCopy) → List Handle → Type 0
HaveAll nodes handles = (handle : Handle) → IsSome (nodes handle) → Contains handles handle

-- how many names the nodes under these handles have together
abbrev pub names_of_all : (Handle → Option NodeCopy) → List Handle → ℕ
names_of_all nodes handles = sum_by (λ handle. length (names_under nodes handle)) handles

-- no directory has more than so many names
abbrev pub HaveAtMost : (Handle → Option NodeCopy) → ℕ → Type 0
HaveAtMost nodes most = (handle : Handle) → length (names_under nodes handle) ≤ most

-- how many visits a walk makes at most, in directories of so many names
-- at most, and at most so many nodes deep.
-- Example: where no directory has more than 2 names, a walk
-- three nodes deep makes at most 7 visits.
abbrev pub most_visits : ℕ → ℕ → ℕ
most_visits most zero = 0
most_visits most (suc depth) = most * most_visits most depth + 1
