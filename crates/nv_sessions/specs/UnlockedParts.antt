-- What lies beside a part under its lock.
use Rattle.std.specs.Prelude.{◌≡◌, ℕ, ◌<◌, ◌≤◌, List, length, map, slice_index, slice_index_or}
use Rattle.std.specs.List.{range_with_len}
use Rattle.nv_alloc.specs.FreeList.{FreeBlocks}
use Rattle.nv_cell.specs.Cell.{CellValue, block_total}
use Rattle.nv_sessions.specs.Locked.{version_at}

-- what contracts see of what lies beside a cell that is out of its lock
pub record BesideCellValue : Type 0 where
  -- the slot out of whose lock the cell was taken
  pub slot : ℕ
  -- the number of its inode
  pub ino : ℕ
  -- how many blocks its share says that the cell has
  pub blocks : ℕ
  -- the version at which the inode's owner has it
  pub version : ℕ

-- what is told of a cell, by what lies beside it or by itself
pub record Told : Type 0 where
  -- how many blocks the cell has
  pub blocks : ℕ
  -- how many commits the cell has seen
  pub version : ℕ

-- what lay beside a cell tells of it
abbrev pub rest_told : BesideCellValue → Told
rest_told rest = record { blocks = rest.blocks; version = rest.version }

-- what a cell tells of itself
abbrev pub cell_told : CellValue → Told
cell_told cell = record { blocks = block_total cell.state; version = cell.state.version }

-- the share of a free list says how many blocks it has
abbrev pub list_told : FreeBlocks → ℕ
list_told list = length list.blocks

-- no more was seen of an inode than its owner has
abbrev pub IsKnown : List ℕ → List ℕ → BesideCellValue → Type 0
IsKnown opened seen rest = version_at opened rest.ino (slice_index seen rest.ino) ≤ rest.version

-- the slot out of whose lock a cell was taken
abbrev pub slot_of : BesideCellValue → ℕ
slot_of rest = rest.slot

-- what lay beside cells is in the order of their slots, and of each slot
abbrev pub AreAllSlots : List BesideCellValue → Type 0
AreAllSlots rests = map slot_of rests ≡ range_with_len 0 (length rests)

-- IN PLACE: each cell was taken out of the lock of its own inode's slot
abbrev pub AreInPlace : List BesideCellValue → Type 0
AreInPlace rests = (slot : ℕ) (d : BesideCellValue) → slot < length rests → (slice_index_or rests slot d).ino ≡ slot
