-- What the walks of the cleaners find in a cell as it stands.
use Rattle.std.specs.Prelude.{ℕ, ◌-◌, Bool, not, List, [], count_by, length}
use Rattle.std.specs.Int.{div_ceil}
use Rattle.nv_cell.specs.Cell.{CellState, log_of}
use Rattle.nv_entry.specs.ByFlags.{pages_stay_by, stays_by}
use Rattle.nv_entry.specs.Clean.{entries_of}
use Rattle.nv_cell.specs.Readers.{there_flags}
use Rattle.nv_log.specs.Chain.{gone_of, left_of, log_pages}

-- which entries of the log stay in a thorough cleaning: those that something keeps, those that
-- hide an earlier one that stays, and the last
abbrev pub entries_staying : CellState → List Bool
entries_staying cell = stays_by cell.block (there_flags cell) [] (log_of cell)

-- which pages with entries stay in a fast cleaning
abbrev pub pages_staying : CellState → List Bool
pages_staying cell = pages_stay_by cell.block (there_flags cell) [] (log_pages cell.chain)

-- what the walk of a thorough cleaning finds
pub record WantedValue : Type 0 where
  -- for each entry of the log whether it stays
  pub stays : List Bool
  -- how many entries stay, those past the tail too
  pub entries : ℕ
  -- how many log pages these fill
  pub pages : ℕ
  -- how many entries go
  pub dropped : ℕ

-- what the walk of a fast cleaning finds
pub record UnlinkableValue : Type 0 where
  -- for each log page with entries whether it stays
  pub stays : List Bool
  -- how many log pages go
  pub pages : ℕ
  -- how many published entries these pages have
  pub entries : ℕ

-- what the walk of a thorough cleaning finds in a cell as it stands
abbrev pub wanted_of : CellState → WantedValue
wanted_of cell =
    let stays = entries_staying cell in
    let left = length (left_of stays cell.chain.entries) in
    record {
      stays = stays;
      entries = left;
      pages = div_ceil left cell.chain.page;
      dropped = length cell.chain.entries - left;
    }

-- what the walk of a fast cleaning finds in a cell as it stands
abbrev pub unlinkable_of : CellState → UnlinkableValue
unlinkable_of cell =
    let stays = pages_staying cell in
    record {
      stays = stays;
      pages = count_by not stays;
      entries = length (entries_of (gone_of stays (log_pages cell.chain)));
    }
