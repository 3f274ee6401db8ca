-- What stands in cells and free lists when a service opens.
use Rattle.std.specs.Prelude.{ℕ, List, map}
use Rattle.std.specs.List.{sum_by}
use Rattle.nv_alloc.specs.FreeList.{FreeBlocks}
use Rattle.nv_cell.specs.Cell.{CellValue, block_total}
use Rattle.nv_sessions.specs.UnlockedParts.{list_told}

-- the version of each inode
abbrev pub version_of : CellValue → ℕ
version_of cell = cell.state.version

-- the versions of cells, in order
abbrev pub versions_in : List CellValue → List ℕ
versions_in cells = map version_of cells

-- how many blocks a cell has
abbrev pub blocks_at : CellValue → ℕ
blocks_at cell = block_total cell.state

-- how many blocks cells have
abbrev pub cell_blocks : List CellValue → ℕ
cell_blocks cells = sum_by blocks_at cells

-- how many blocks free lists have
abbrev pub list_blocks : List FreeBlocks → ℕ
list_blocks lists = sum_by list_told lists
