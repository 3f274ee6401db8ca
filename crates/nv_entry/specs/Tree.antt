-- The tree: the nodes that are reached from the root through names, each with its path.
use Rattle.std.specs.Prelude.{ℕ, zero, suc, ◌≡◌, ◌<◌, List, [], ◌∷◌, ◌++◌, length, slice_index_or, Option, Some, None, IsSome}
use Rattle.std.specs.List.{Contains, flat_map}
use Rattle.nv_base.specs.declared.numbers.Handle.{Handle}
use Rattle.nv_entry.specs.declared.names.BoundName.{BoundName}
use Rattle.nv_entry.specs.declared.node.NodeCopy.{NodeCopy}
use Rattle.nv_entry.specs.declared.tree.TreeNode.{TreeNode}

-- the path of a name in the directory at a path
abbrev pub path_below : List (List ℕ) → List ℕ → List (List ℕ)
path_below path name = path ++ name ∷ []

-- the names in the directory under a handle
abbrev pub names_of_node : Option NodeCopy → List BoundName
names_of_node None = []
names_of_node (Some node) = node.names

-- the names of a directory, none where there is no node
abbrev pub names_under : (Handle → Option NodeCopy) → Handle → List BoundName
names_under nodes handle = names_of_node (nodes handle)

-- a node at its path, and then what stands below each of its names, in their order
abbrev pub node_and_below : Option NodeCopy → List (List ℕ) → (BoundName → List TreeNode) → List TreeNode
node_and_below None path below = []
node_and_below (Some node) path below = record { path = path; node = node } ∷ flat_map below node.names

-- the tree from a handle on, at most so many nodes deep: the nodes that are reached from it
-- through names, each with its path. A parent stands before its names, and these in their order. A
-- name whose handle stands for no node has nothing in the tree.
abbrev pub tree_from : (Handle → Option NodeCopy) → ℕ → List (List ℕ) → Handle → List TreeNode
tree_from nodes zero path handle = []
tree_from nodes (suc depth) path handle =
    node_and_below (nodes handle) path (λ bound. tree_from nodes depth (path_below path bound.name) bound.to)

-- the handle of the root
abbrev pub root : Handle
root = record { ino = 0; generation = 1 }

-- no way down from a handle is longer than so many nodes, so this depth cuts nothing of the tree.
-- Example: a root has the names `a` and `b`. `a` leads to no node, and `b` to a
-- directory with `c`, which leads to a file. The tree is root, `/b`, `/b/c`. The depth 3
-- cuts nothing, and the depth 2 cuts `/b/c`.
abbrev pub CutsNothing : (Handle → Option NodeCopy) → ℕ → Handle → Type 0
CutsNothing nodes zero handle = nodes handle ≡ None
CutsNothing nodes (suc depth) handle = (bound : BoundName) → Contains (names_under nodes handle) bound → CutsNothing nodes depth bound.to

-- a name of a directory, by its place in the list, leads to a node
abbrev pub LeadsAt : (Handle → Option NodeCopy) → Handle → ℕ → BoundName → Type 0
LeadsAt nodes dir place bound =
    let names = names_under nodes dir in
    (place < length names) × (slice_index_or names place bound ≡ bound) × IsSome (nodes bound.to)

-- the directories form a tree below the root, with so many inode slots
pub record FormTree (nodes : Handle → Option NodeCopy) (inodes : ℕ) : Type 0 where
  -- each node has one of the inode slots
  pub numbered : (handle : Handle) → IsSome (nodes handle) → handle.ino < inodes
  -- no name leads to the root
  pub root_unnamed : (dir : Handle) (place : ℕ) (bound : BoundName) → LeadsAt nodes dir place bound → root.ino < bound.to.ino
  -- two names that lead to one inode are one name of one directory
  pub one_name : (one other : Handle) (j k : ℕ) (a b : BoundName) → LeadsAt nodes one j a → LeadsAt nodes other k b
      → a.to.ino ≡ b.to.ino → (one.ino ≡ other.ino) × (j ≡ k)
