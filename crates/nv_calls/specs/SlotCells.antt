-- The cells of some slots of all, as the cells of a call.
use Rattle.std.specs.Prelude.{ℕ, List, length, map, slice_index_or}
use Rattle.nv_alloc.specs.Numbers.{has, unused}
use Rattle.nv_cell.specs.Cell.{CellValue}
use Rattle.nv_calls.specs.Cells.{no_cell}

-- the cell of an inode slot
abbrev pub cell_in : List CellValue → ℕ → CellValue
cell_in all ino = slice_index_or all ino (no_cell.1)

-- the cells of these inode slots, each with its inode number
abbrev pub lent_cells : List ℕ → List CellValue → List (ℕ × CellValue)
lent_cells slots all = map (λ ino. (ino, cell_in all ino)) slots

-- the cells of all other inode slots, by rising number
abbrev pub other_cells : List ℕ → List CellValue → List CellValue
other_cells slots all = map (cell_in all) (unused (has slots) 0 (length all))
