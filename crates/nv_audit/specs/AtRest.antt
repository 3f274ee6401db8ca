-- What is at rest between two calls: the book, and each cell beside it.
use Rattle.std.specs.Prelude.{◌≡◌, ℕ, ◌≤◌, false, [], List, All}
use Rattle.nv_base.specs.declared.limits.TheConstants.{NUMBER}
use Rattle.nv_book.specs.Book.{BookState}
use Rattle.nv_book.specs.Manifests.{AreDead, AreFiled}
use Rattle.nv_cell.specs.Cell.{CellState, log_of}
use Rattle.nv_cell.specs.Marks.{is_killed, mark_at}
use Rattle.nv_epoch.specs.SnapList.{IsSound, ids}
use Rattle.nv_epoch.specs.declared.snapshot.Snapshot.{Snapshot}
use Rattle.nv_journal.specs.declared.old_tail.OldTail.{OldTail}
use Rattle.nv_audit.specs.LogShape.{AreNoLater}

-- no journal has noted anything
abbrev pub AreAllClosed : List (List OldTail) → Type 0
AreAllClosed journals = All (λ (tails : List OldTail). tails ≡ []) journals

-- A BOOK AT REST, as it stands while no call runs
pub record IsAtRest (book : BookState) : Type 0 where
  -- no living snapshot is pinned
  pub unpinned : All (λ (s : Snapshot). s.pins ≡ 0) book.snaps.living
  -- no journal notes anything
  pub closed : AreAllClosed book.journals

-- no part is marked killed
abbrev pub HasNoneKilled : CellState → Type 0
HasNoneKilled cell = (n : ℕ) → is_killed (mark_at cell.marks n) ≡ false

-- a cell is up to a commit and an epoch.
-- Example: a cell of version 3 is not up to commit 2.
pub record IsUpTo (commit epoch : ℕ) (cell : CellState) : Type 0 where
  -- at most as many commits of the cell were published as the commit number says
  pub version : cell.version ≤ commit
  -- no entry of the log is of a later commit or epoch
  pub entries : AreNoLater commit epoch (log_of cell)

-- A BOOK IS ONE, as each is at all times
pub record IsOneBook (book : BookState) : Type 0 where
  -- snapshots rise below the epoch, and pins, snapshots and epoch are within their limits
  pub snaps : IsSound book.snaps
  -- each record stands with its youngest living holder, or is deferred where it has none
  pub filed : AreFiled (ids book.snaps) book.manifests book.deferred
  -- each record died by the present epoch
  pub dead : AreDead book.snaps.epoch book.manifests book.deferred
  -- the commit number is at most the greatest
  pub commit : book.commit ≤ NUMBER
