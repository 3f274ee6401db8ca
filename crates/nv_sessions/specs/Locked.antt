-- What lies under the locks: a place of a cell.
use Rattle.std.specs.Prelude.{◌≡◌, ℕ, ◌+◌, List, Option, Some, None, is_some, slice_index, true, unwrap_or}
use Rattle.nv_calls.specs.Cells.{no_cell}
use Rattle.nv_cell.specs.Cell.{CellValue, block_total}

-- what contracts see of a place of a cell. Beside it lie a share of as many blocks as the cell has,
-- of none where the cell is out, and the pass that owns the inode at the place's version.
pub record LockedValue : Type 0 where
  -- the number of the inode
  pub ino : ℕ
  -- the version at which the pass owns it
  pub version : ℕ
  -- the cell, unless a call has it
  pub cell : Option CellValue

-- how many blocks lie there
abbrev pub blocks_there : Option CellValue → ℕ
blocks_there None = 0
blocks_there (Some cell) = block_total cell.state

-- a cell that is there has the version of the place
abbrev pub IsAt : ℕ → Option CellValue → Type 0
IsAt version None = Unit {0}
IsAt version (Some cell) = cell.state.version ≡ version

-- the cell is there
abbrev pub IsThere : LockedValue → Type 0
IsThere place = is_some place.cell ≡ true

-- the cell of a place where it is there
abbrev pub cell_of : LockedValue → CellValue
cell_of place = unwrap_or place.cell (no_cell.1)

-- a place whose cell is out
abbrev pub without_cell : LockedValue → LockedValue
without_cell place = record place { cell = None }

-- a place whose cell is back
abbrev pub with_cell : CellValue → LockedValue → LockedValue
with_cell cell place = record place { cell = Some cell }

-- the version of an inode of which so much was seen since the opening. Example: with the version 3
-- at the opening, a session that has seen 2 has seen the version 5.
abbrev pub version_at : List ℕ → ℕ → ℕ → ℕ
version_at opened ino seen = slice_index opened ino + seen
