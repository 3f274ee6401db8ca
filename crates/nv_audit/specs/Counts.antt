-- Counts of pages that are the scan of a log.
use Rattle.std.specs.Prelude.{◌≡◌, ℕ, ◌<◌, Bool, List, drop, length}
use Rattle.nv_entry.specs.Counts.{live_of, valid_of}
use Rattle.nv_entry.specs.Held.{Retention}
use Rattle.nv_log.specs.Chain.{start_of}
use Rattle.nv_cell.specs.Cell.{CellState, log_of}
use Rattle.nv_cell.specs.Readers.{counts_of}
use Rattle.nv_cell.specs.Retained.{published_on}
use Rattle.nv_cell.specs.declared.tally.LogPageCounts.{LogPageCounts}
use Rattle.nv_audit.specs.Retained.{marked_on}

-- the counts of a page from scratch: of its published entries, in the log from its first one on
abbrev pub scanned_counts : Retention → CellState → ℕ → LogPageCounts
scanned_counts r cell page = record {
  live = live_of r.block (published_on cell page) (drop (start_of cell.chain page) (log_of cell));
  valid = valid_of r (published_on cell page) (drop (start_of cell.chain page) (log_of cell));
}

-- each page with entries has these.
-- Counts: of each log page how many published entries have a current pair, and how many one that is needed,
-- deferred or in a hand.
abbrev pub AreCounted : Retention → CellState → Type 0
AreCounted r cell = (page : ℕ) → page < length cell.chain.ends → counts_of cell page ≡ scanned_counts r cell page

-- of each page so many entries are valid as are marked
abbrev pub AreValidAs : CellState → List Bool → Type 0
AreValidAs cell entries = (page : ℕ) → page < length cell.chain.ends → (counts_of cell page).valid ≡ marked_on cell entries page
