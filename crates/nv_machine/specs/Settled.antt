-- Settled logs, and the tree that they give.
use Rattle.std.specs.Prelude.{ℕ, ◌==◌, if◌then◌else◌, List, [], length, take, Option, None}
use Rattle.nv_base.specs.declared.numbers.Handle.{Handle}
use Rattle.nv_calls.specs.Plain.{PlainNode, node_in, stamped}
use Rattle.nv_calls.specs.Slots.{last_commit}
use Rattle.nv_cell.specs.Cell.{CellState}
use Rattle.nv_entry.specs.Node.{node_at, node_now}
use Rattle.nv_entry.specs.Tree.{root, tree_from}
use Rattle.nv_entry.specs.declared.item.Entry.{Entry}
use Rattle.nv_entry.specs.declared.node.NodeCopy.{NodeCopy}
use Rattle.nv_entry.specs.declared.tree.TreeNode.{TreeNode}
use Rattle.nv_journal.specs.Journal.{settled_tail}
use Rattle.nv_machine.specs.Reads.{bytes_among}
use Rattle.nv_machine.specs.World.{Shared, World, cell_at}

-- THE SETTLED LOG of a slot: its entries up to the tail that an open journal notes for it, else up
-- to its own
abbrev pub settled : Shared → ℕ → List Entry
settled s ino = take (settled_tail s.book.journals ino (cell_at s ino).chain.tail) (cell_at s ino).chain.entries

-- the node that a log gives, by the blocks of its cell
abbrev pub node_by : CellState → List Entry → Option PlainNode
node_by cell log = stamped (last_commit log) (node_now (bytes_among cell.blocks) cell.block log)

-- the node under a handle by the settled log of its slot
abbrev pub settled_nodes : Shared → Handle → Option PlainNode
settled_nodes s handle =
    if handle.generation == (cell_at s handle.ino).generation then node_by (cell_at s handle.ino) (settled s handle.ino) else None

-- the node under a handle at the end of an epoch, by the settled log
abbrev pub settled_copies : Shared → ℕ → Handle → Option NodeCopy
settled_copies s epoch handle =
    if handle.generation == (cell_at s handle.ino).generation
    then node_at (bytes_among (cell_at s handle.ino).blocks) (cell_at s handle.ino).block epoch (settled s handle.ino)
    else None

-- the tree of a snapshot, by the settled logs at its epoch
abbrev pub snapshot_tree : World → ℕ → List TreeNode
snapshot_tree w snapshot = tree_from (settled_copies w.shared snapshot) (length w.shared.cells) [] root

-- the tree of now, by the settled logs
abbrev pub tree_of : World → List TreeNode
tree_of w = tree_from (node_in (settled_nodes w.shared)) (length w.shared.cells) [] root
