-- Settled logs, the tree that they give, and what of a cell shows its node.
pub use Rattle.nv_journal.specs.Journal.{noted_or, settled_tail}
pub use Rattle.nv_machine.specs.Settled.{settled, node_by, settled_copies, settled_nodes, snapshot_tree, tree_of}
use Rattle.std.specs.Prelude.{◌≡◌, ℕ, ◌<◌, ◌≤◌, List, [], length}
use Rattle.nv_base.specs.declared.numbers.Handle.{Handle}
use Rattle.nv_calls.specs.Plain.{node_in}
use Rattle.nv_entry.specs.Tree.{root, tree_from}
use Rattle.nv_entry.specs.declared.tree.TreeNode.{TreeNode}
use Rattle.nv_machine.specs.SnapshotOrCleaner.{copies_at}
use Rattle.nv_machine.specs.World.{Shared, cell_at}
use Rattle.nv_reader.specs.Cells.{NoneOut}
use Rattle.nv_core.specs.Visits.{HasOwnBytes}

-- the cell of a slot has what its settled log asks for
pub record CanSettle (s : Shared) (ino : ℕ) : Type 0 where
  -- the settled tail is not past the log's own
  pub tail : settled_tail s.book.journals ino (cell_at s ino).chain.tail ≤ (cell_at s ino).chain.tail
  -- each block of the cell is the only one of its number there
  pub own : HasOwnBytes s ino
  -- each file page of the settled log below its size has its block
  pub pages : NoneOut (cell_at s ino) (settled s ino)

-- each slot's cell has what its settled log asks for
abbrev pub AreSettled : Shared → Type 0
AreSettled s = (ino : ℕ) → ino < length s.cells → CanSettle s ino

-- at this epoch the logs up to their tails give the nodes of the settled logs, so a snapshot is
-- read by them
abbrev pub AreSettledAt : ℕ → Shared → Type 0
AreSettledAt epoch s = (handle : Handle) → copies_at s epoch handle ≡ settled_copies s epoch handle

-- the tree at an epoch, by what is shared
abbrev pub tree_at : ℕ → Shared → List TreeNode
tree_at epoch s = tree_from (settled_copies s epoch) (length s.cells) [] root

-- the tree now, by what is shared
abbrev pub tree_in : Shared → List TreeNode
tree_in s = tree_from (node_in (settled_nodes s)) (length s.cells) [] root
