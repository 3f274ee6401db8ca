-- The cells of a call: the number of each inode with what contracts see of its cell, by rising number.
use Rattle.std.specs.Prelude.{◌≡◌, ℕ, ◌<◌, ◌≤◌, List, AllPairs, length, slice_index_or, slice_set}
use Rattle.nv_cell.specs.Cell.{CellState, CellValue, empty_cell, no_room}

-- what stands past the last cell
abbrev pub no_cell : ℕ × CellValue
no_cell = (0, record { state = empty_cell 1 2 0 0; room = no_room })

-- the inode number of the k-th cell
abbrev pub ino_at : List (ℕ × CellValue) → ℕ → ℕ
ino_at cells k = (slice_index_or cells k no_cell).0

-- what clauses see of the cell at a place
abbrev pub value_at : List (ℕ × CellValue) → ℕ → CellValue
value_at cells k = (slice_index_or cells k no_cell).1

-- the state of the cell at a place
abbrev pub state_at : List (ℕ × CellValue) → ℕ → CellState
state_at cells k = (value_at cells k).state

-- the cells with another value of the k-th
abbrev pub with_value : List (ℕ × CellValue) → ℕ → CellValue → List (ℕ × CellValue)
with_value cells k value = slice_set cells k (ino_at cells k, value)

-- all cells except the k-th are as they were
abbrev pub OnlyAt : ℕ → List (ℕ × CellValue) → List (ℕ × CellValue) → Type 0
OnlyAt k old new = new ≡ with_value old k (value_at new k)

-- the cells of one call
pub record AreCells (cells : List (ℕ × CellValue)) : Type 0 where
  -- a call has at most four cells
  pub few : length cells ≤ 4
  -- they stand by rising inode number, each number once
  pub rising : AllPairs (λ a b. a.0 < b.0) cells
