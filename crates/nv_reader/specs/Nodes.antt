-- The nodes under handles: what the cells of their slots show, in the handle's generation only.
use Rattle.std.specs.Prelude.{ℕ, ◌==◌, if◌then◌else◌, List, Option, None, Some, drop, unwrap_or}
use Rattle.nv_base.specs.declared.numbers.Handle.{Handle}
use Rattle.nv_entry.specs.Log.{up_to}
use Rattle.nv_entry.specs.Node.{node_at}
use Rattle.nv_entry.specs.declared.item.Entry.{Entry}
use Rattle.nv_entry.specs.declared.node.NodeCopy.{NodeCopy}
use Rattle.nv_cell.specs.Cell.{CellState, log_of}
use Rattle.nv_cell.specs.Pages.{AreBytesOf}
use Rattle.nv_reader.specs.Cells.{NoneOut, settled}

-- the node under a handle, where `node` is what a cell shows of some
-- entries, and `logs` has those of each inode
abbrev pub node_under : {Node : Type 0} → (CellState → List Entry → Option Node) → (ℕ → CellState) → (ℕ → List Entry) → Handle → Option Node
node_under node cells logs handle =
    if handle.generation == (cells handle.ino).generation then node (cells handle.ino) (logs handle.ino) else None

-- the node under a handle now, by the settled logs, where `noted`
-- has the tails that open journals have noted
abbrev pub settled_nodes : {Node : Type 0} → (CellState → List Entry → Option Node) → (ℕ → CellState) → (ℕ → Option ℕ) → Handle
    → Option Node
settled_nodes node cells noted = node_under node cells (λ ino. settled (noted ino) (cells ino))

-- the node under a handle at the end of an epoch
abbrev pub nodes_at : {Node : Type 0} → (CellState → List Entry → Option Node) → (ℕ → CellState) → ℕ → Handle → Option Node
nodes_at node cells epoch = node_under node cells (λ ino. up_to epoch (log_of (cells ino)))

-- the entries that count and are not settled
abbrev pub unsettled : Option ℕ → CellState → List Entry
unsettled noted cell = drop (unwrap_or noted cell.chain.tail) (log_of cell)

-- ---- one lent cell

-- the node under a handle at the end of an epoch, by the cell of its slot, if there is one
abbrev pub copy_in : (ℕ → List ℕ) → Option CellState → ℕ → Handle → Option NodeCopy
copy_in bytes None epoch handle = None
copy_in bytes (Some cell) epoch handle =
    if handle.generation == cell.generation then node_at bytes cell.block epoch (log_of cell) else None

-- a cell has the bytes of its node at the end of an epoch
pub record IsWhole (bytes : ℕ → List ℕ) (epoch : ℕ) (cell : CellState) : Type 0 where
  -- `bytes` gives the bytes of each block that the cell has for a part
  pub own : AreBytesOf cell bytes
  -- each part that holds a page of the node has its block
  pub pages : NoneOut cell (up_to epoch (log_of cell))
