-- Marks that are what keeps the parts of a log.
use Rattle.std.specs.Prelude.{◌≡◌, ℕ, ◌<◌, if◌then◌else◌, List, [], ◌∷◌, Some, drop, length, slice_get, slice_index_or}
use Rattle.nv_entry.specs.declared.held.Pair.{Pair}
use Rattle.nv_entry.specs.declared.part.PartId.{PartId}
use Rattle.nv_entry.specs.Counts.{live_of, valid_of}
use Rattle.nv_entry.specs.Held.{Retention, keeps, pair_name}
use Rattle.nv_entry.specs.Log.{pairs}
use Rattle.nv_log.specs.Chain.{log_pages, start_of}
use Rattle.nv_cell.specs.Cell.{CellState, log_of}
use Rattle.nv_cell.specs.Marks.{is_there, mark_at}
use Rattle.nv_cell.specs.declared.mark.Mark.{Mark}
use Rattle.nv_cell.specs.Readers.{counts_of}

-- the marks of a cell are what a retention says
pub record AreMarksOf (r : Retention) (cell : CellState) : Type 0 where
  -- the retention has the size of the cell's blocks
  pub block : r.block ≡ cell.block
  -- a part is not out exactly where its pair is needed or pending
  pub there : (n : ℕ) (pair : Pair) → slice_get (pairs r.block (log_of cell)) n ≡ Some pair → is_there (mark_at cell.marks n) ≡ keeps r pair

-- the names of the pairs whose parts are not out
abbrev pub names_there : List Pair → List Mark → List PartId
names_there [] marks = []
names_there (pair ∷ later) [] = []
names_there (pair ∷ later) (mark ∷ marks) =
    if is_there mark then pair_name pair ∷ names_there later marks else names_there later marks

-- what the marks of a cell keep, as a retention: no snapshot, and the name of each part not out
abbrev pub retention_by_marks : CellState → Retention
retention_by_marks cell =
    record { block = cell.block; snapshots = []; pending = names_there (pairs cell.block (log_of cell)) cell.marks }

-- how many published entries a log page has
abbrev pub published_on : CellState → ℕ → ℕ
published_on cell page = length (slice_index_or (log_pages cell.chain) page [])

-- the `live` count of each log page is that of the log from scratch
abbrev pub LiveIsScanned : CellState → Type 0
LiveIsScanned cell =
    (page : ℕ) → page < length cell.chain.ends
    → (counts_of cell page).live ≡ live_of cell.block (published_on cell page) (drop (start_of cell.chain page) (log_of cell))

-- the `valid` count of each log page is that of the log from scratch
abbrev pub ValidIsScanned : Retention → CellState → Type 0
ValidIsScanned r cell =
    (page : ℕ) → page < length cell.chain.ends
    → (counts_of cell page).valid ≡ valid_of r (published_on cell page) (drop (start_of cell.chain page) (log_of cell))
