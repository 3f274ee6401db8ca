-- The plain nodes that the cells of a call hold.
use Rattle.std.specs.Prelude.{◌≡◌, ℕ, ◌==◌, Bool, false, if◌then◌else◌, is_some, List, [], ◌∷◌, Option, Some, None, option_and_then, option_map, unwrap_or}
use Rattle.std.specs.List.{AllByRecursion}
use Rattle.nv_base.specs.declared.numbers.Handle.{Handle}
use Rattle.nv_entry.specs.declared.node.NodeCopy.{NodeCopy}
use Rattle.nv_entry.specs.Node.{block_now}
use Rattle.nv_cell.specs.Cell.{CellState, CellValue, IsCell, log_of}
use Rattle.nv_cell.specs.Pages.{AreBytesOf, own_bytes}
use Rattle.nv_calls.specs.declared.call.Call.{Call}
use Rattle.nv_calls.specs.declared.view.View.{View}
use Rattle.nv_calls.specs.AllCalls.{answer, refusal}
use Rattle.nv_calls.specs.Cells.{state_at}
use Rattle.nv_calls.specs.Plain.{PlainNode, node_in}
use Rattle.nv_calls.specs.Refusals.{Check, passes}
use Rattle.nv_calls.specs.Slots.{InodeSlot}
use Rattle.nv_calls.specs.Views.{node_of, slot_of}

-- the bytes of a block, which are the same for all cells of a call
abbrev pub block_in : List (ℕ × CellValue) → ℕ
block_in cells = (state_at cells 0).block

-- the cell of an inode, if it is one of the call's
abbrev pub cell_of : List (ℕ × CellValue) → ℕ → Option CellValue
cell_of [] ino = None
cell_of (c ∷ cells) ino = if c.0 == ino then Some c.1 else cell_of cells ino

-- a node with other bytes
abbrev pub with_bytes : List ℕ → PlainNode → PlainNode
with_bytes bytes p = record p { node = record p.node { bytes = bytes } }

-- the plain node under a handle of a cell's slot, with the bytes of the cell's own blocks
abbrev pub own_node : CellState → Handle → Option PlainNode
own_node cell handle = option_map (with_bytes (own_bytes cell)) (node_of (λ number. []) cell handle)

-- the plain node under a handle: that of the cell with its number
abbrev pub plain_nodes : List (ℕ × CellValue) → Handle → Option PlainNode
plain_nodes cells handle = option_and_then (λ c. own_node c.state handle) (cell_of cells handle.ino)

-- the nodes of cells, by handle
abbrev pub nodes_in : List (ℕ × CellValue) → Handle → Option NodeCopy
nodes_in cells = node_in (plain_nodes cells)

-- whether the log of a cell has a block for a page
abbrev pub cell_has_page : ℕ → CellState → Bool
cell_has_page page cell = is_some (block_now cell.block (log_of cell) page)

-- the cells have a block for a page of a file
abbrev pub has_page_in : List (ℕ × CellValue) → Handle → ℕ → Bool
has_page_in cells handle page = unwrap_or (option_map (λ c. cell_has_page page c.state) (cell_of cells handle.ino)) false

-- ---- what a call that only reads finds

-- one cell, with the number of its inode
abbrev pub alone : ℕ → CellValue → List (ℕ × CellValue)
alone ino cell = (ino, cell) ∷ []

-- the plain node under a handle, where `bytes` gives those of a block
abbrev pub nodes_by : (ℕ → List ℕ) → List (ℕ × CellValue) → Handle → Option PlainNode
nodes_by bytes cells handle = option_and_then (λ c. node_of bytes c.state handle) (cell_of cells handle.ino)

-- the nodes of cells, where the bytes of their blocks are given
abbrev pub copies_by : (ℕ → List ℕ) → List (ℕ × CellValue) → Handle → Option NodeCopy
copies_by bytes cells = node_in (nodes_by bytes cells)

-- why a call is refused that only reads the cell of an inode
abbrev pub view_refusal : (ℕ → List ℕ) → ℕ → CellValue → Call → Check
view_refusal bytes ino cell c = refusal cell.state.block (copies_by bytes (alone ino cell)) c

-- a view of a call that passes, over these nodes
pub record IsViewOver (nodes : Handle → Option PlainNode) (cell : CellState) (c : Call) (view : View) : Type 0 where
  -- the call passes its tests by these nodes
  pub passes : refusal cell.block (node_in nodes) c ≡ passes
  -- the view has the call
  pub call : view.call ≡ c
  -- the view has what these nodes answer
  pub found : (made : Handle) → view.found ≡ answer nodes made c
  -- the view has the version of the cell: how many of its commits were published
  pub version : view.version ≡ cell.version

-- a view of a call over one cell with its inode number, where `bytes` gives those of a block.
-- A handle of another number has no node there.
abbrev pub IsView : (ℕ → List ℕ) → ℕ → CellValue → Call → View → Type 0
IsView bytes ino cell c view = IsViewOver (nodes_by bytes (alone ino cell)) cell.state c view

-- a view of a call over one cell with its inode number, by the bytes of the cell's own blocks
abbrev pub IsOwnView : ℕ → CellValue → Call → View → Type 0
IsOwnView ino cell c view = IsViewOver (plain_nodes (alone ino cell)) cell.state c view

-- ---- the cells as slots

-- a slot that no cell has is empty, of no generation
abbrev pub slot_by : Option CellValue → InodeSlot
slot_by None = record { generation = 0; log = [] }
slot_by (Some c) = slot_of c.state

-- the inode slots of cells, by number
abbrev pub slots_by : List (ℕ × CellValue) → ℕ → InodeSlot
slots_by cells ino = slot_by (cell_of cells ino)

-- a cell whose blocks have these bytes
pub record HasBytes (bytes : ℕ → List ℕ) (block : ℕ) (cell : CellState) : Type 0 where
  -- the cell is whole, as each cell is at all times
  pub is : IsCell cell
  -- its blocks have `block` bytes
  pub size : cell.block ≡ block
  -- `bytes` gives for the number of each of its blocks what this block has
  pub are : AreBytesOf cell bytes

-- each cell's blocks have these bytes
abbrev pub HaveBytes : (ℕ → List ℕ) → ℕ → List (ℕ × CellValue) → Type 0
HaveBytes bytes block cells = AllByRecursion (λ c. HasBytes bytes block c.1.state) cells
