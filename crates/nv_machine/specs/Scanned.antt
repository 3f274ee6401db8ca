-- What one scan of all logs, of the snapshot list, of records and of hands counts.
use Rattle.std.specs.Prelude.{ℕ, ◌&&◌, Bool, not, count_by, length}
use Rattle.std.specs.List.{range_with_len, sum_by}
use Rattle.nv_book.specs.Records.{block_count, is_page}
use Rattle.nv_cell.specs.Cell.{CellState, log_of}
use Rattle.nv_entry.specs.Held.{holds, is_current, is_held, is_needed}
use Rattle.nv_entry.specs.Log.{pairs}
use Rattle.nv_entry.specs.declared.held.Pair.{Pair}
use Rattle.nv_epoch.specs.Holders.{without}
use Rattle.nv_epoch.specs.SnapList.{ids}
use Rattle.nv_machine.specs.Held.{free_by_logs, pending_in}
use Rattle.nv_machine.specs.Recorded.{is_killed_pair}
use Rattle.nv_machine.specs.World.{Shared, World, cell_at}

-- how many file pages of a log have a pair that passes a test
abbrev pub pages_that : (Pair → Bool) → CellState → ℕ
pages_that passes cell = count_by (λ (pair : Pair). is_page pair.part && passes pair) (pairs cell.block (log_of cell))

-- WHAT A SCAN COUNTS: how many file pages of all logs have a pair that passes a test, which is
-- told the slot. `scanned_data` counts those that are needed. Example: a call has published over a
-- page that no snapshot holds, and has not retired it. Then the page is killed. It is no data and
-- not pending, and its block counts as in a hand.
abbrev pub all_pages_that : (ℕ → Pair → Bool) → Shared → ℕ
all_pages_that passes s = sum_by (λ ino. pages_that (passes ino) (cell_at s ino)) (range_with_len 0 (length s.cells))

-- ---- space

-- THE FREE BLOCKS: of all home ranges, those that the logs leave
abbrev pub scanned_free : World → ℕ
scanned_free w = sum_by (λ cpu. length (free_by_logs w.numbers w cpu)) (range_with_len 0 w.numbers.cpus)

-- THE LOG PAGES of all chains
abbrev pub scanned_chain : Shared → ℕ
scanned_chain s = sum_by (λ (cell : CellState). length cell.chain.blocks) s.cells

-- THE DATA: the file pages that are current or that a living snapshot holds
abbrev pub scanned_data : Shared → ℕ
scanned_data s = all_pages_that (λ ino. is_needed (ids s.book.snaps)) s

-- THE PENDING: the file pages of records that are deferred, or picked by a drain and not yet
-- released
abbrev pub scanned_pending : World → ℕ
scanned_pending w = block_count (pending_in w)

-- ---- snapshots

-- a snapshot holds a pair that is no longer current, and that is not killed and yet to be retired
abbrev pub is_kept_for : ℕ → World → ℕ → Pair → Bool
is_kept_for snapshot w ino pair = holds snapshot pair && (not (is_current pair) && not (is_killed_pair w ino pair))

-- this snapshot alone, of those that live, holds such a pair
abbrev pub is_kept_alone : ℕ → World → ℕ → Pair → Bool
is_kept_alone snapshot w ino pair =
    is_kept_for snapshot w ino pair && not (is_held (without snapshot (ids w.shared.book.snaps)) pair)

-- THE PAGES THAT A SNAPSHOT HOLDS and that are no longer current
abbrev pub scanned_held : World → ℕ → ℕ
scanned_held w snapshot = all_pages_that (is_kept_for snapshot w) w.shared

-- THE GAIN OF A SNAPSHOT: the pages that it alone holds, which a drop of it would defer
abbrev pub scanned_gain : World → ℕ → ℕ
scanned_gain w snapshot = all_pages_that (is_kept_alone snapshot w) w.shared
