-- The free lists and cells of a device.
use Rattle.std.specs.Prelude.{◌≡◌, ◌<◌, ◌≤◌, true, false, All, List, [], length}
use Rattle.nv_base.specs.declared.geometry.GeometryNumbers.{GeometryNumbers}
use Rattle.nv_base.specs.declared.limits.TheConstants.{NUMBER}
pub use Rattle.nv_alloc.specs.FreeList.{AreListsOf}
use Rattle.nv_cell.specs.Cell.{CellState}
use Rattle.nv_cell.specs.Readers.{IsCellOf, has_inode, is_erased}

-- the generation of a slot is in its range
pub record IsInRange (cell : CellState) : Type 0 where
  -- the generation is at least 1
  pub some : 1 ≤ cell.generation
  -- the generation is at most the greatest
  pub most : cell.generation ≤ NUMBER
  -- a slot of the last generation has no log page
  pub last : cell.generation ≡ NUMBER → cell.chain.blocks ≡ []

-- an inode slot of a device, as it stands while no call runs
pub record IsSlotOf (g : GeometryNumbers) (cell : CellState) : Type 0 where
  -- blocks and log pages of the cell have the device's sizes
  pub sizes : IsCellOf g cell
  -- the generation is in its range
  pub range : IsInRange cell
  -- a slot with an inode is not of the last generation
  pub early : has_inode cell ≡ true → cell.generation < NUMBER
  -- an inode that is gone keeps something
  pub erased : is_erased cell ≡ false

-- the cells of a device's inode slots
pub record AreSlotsOf (g : GeometryNumbers) (cells : List CellState) : Type 0 where
  -- there is a cell for each inode slot
  pub count : length cells ≡ g.inodes
  -- each cell is a slot of the device
  pub each : All (IsSlotOf g) cells
