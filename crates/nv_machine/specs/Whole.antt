-- What holds of each cell of a world.
use Rattle.std.specs.Prelude.{◌≡◌, ℕ, ◌<◌, ◌≤◌, length}
use Rattle.nv_cell.specs.Cell.{CellState, HasBlocks, HasMarks}
use Rattle.nv_machine.specs.World.{Shared, cell_at}

-- what holds of a cell of a device with blocks of this size
pub record HasItsParts (block : ℕ) (cell : CellState) : Type 0 where
  -- its blocks have so many bytes
  pub size : cell.block ≡ block
  -- the tail is not past the last entry
  pub within : cell.chain.tail ≤ length cell.chain.entries
  -- each published part has its mark, which is current where no later entry covers it
  pub marks : HasMarks cell
  -- each file page that is not out has its block, and no other part has one
  pub blocks : HasBlocks cell

-- each slot's cell has its parts
abbrev pub HaveTheirParts : ℕ → Shared → Type 0
HaveTheirParts block s = (ino : ℕ) → ino < length s.cells → HasItsParts block (cell_at s ino)
