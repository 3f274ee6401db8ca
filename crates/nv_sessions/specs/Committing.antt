-- What a commit over locked parts asks, what is tested of it, and what it leaves.
use Rattle.std.specs.Prelude.{◌≡◌, ℕ, ◌<◌, ◌⊎◌, List, length}
use Rattle.std.specs.List.{AllByRecursion}
use Rattle.nv_alloc.specs.declared.hand.Hand.{Hand}
use Rattle.nv_base.specs.Memory.{out_of_memory}
use Rattle.nv_base.specs.declared.fault.Fault.{Fault}
use Rattle.nv_base.specs.declared.fault.Fault.TheVariants as fault
use Rattle.nv_base.specs.declared.fault.MismatchPart.TheVariants as part
use Rattle.nv_base.specs.declared.limits.TheConstants.{NUMBER}
use Rattle.nv_book.specs.Book.{BookState, BookValue, after_enter}
use Rattle.nv_calls.specs.CanCommit.{IsClosed, TakesCommit, next_stamp}
use Rattle.nv_calls.specs.Cells.{value_at}
use Rattle.nv_calls.specs.Commit.{CommitValue, begun}
use Rattle.nv_calls.specs.Committed.{ChangesPlanned, committed, killing, manifests_after}
use Rattle.nv_calls.specs.Prepared.{CanReady, HaveNoLessRoom, IsReadyBy}
use Rattle.nv_calls.specs.Ready.{CellCommitValue, ReadyValue}
use Rattle.nv_calls.specs.declared.update.Update.{Update}
use Rattle.nv_cell.specs.Cell.{CellValue}
use Rattle.nv_epoch.specs.SnapList.{ids}

-- a call was made ready over these cells, which have lost no room since
pub record IsReadyOver (cells : List (ℕ × CellValue)) (ready : ReadyValue) : Type 0 where
  -- the cells as they were when it was made ready
  pub before : List (ℕ × CellValue)
  -- the hand as it was then
  pub hand : Hand
  -- the change that it makes
  pub update : Update
  -- it could be made ready over these cells, with this hand
  pub can : CanReady before hand update
  -- the cells of now are these, with no less room
  pub room : HaveNoLessRoom before cells
  -- what is ready was made of these
  pub is : IsReadyBy before hand update cells ready

-- WHAT NO LOCKED VALUE'S TYPE KEEPS: each cell that gets entries takes the book's next commit
abbrev pub TakeNext : BookState → List (ℕ × CellValue) → ReadyValue → Type 0
TakeNext book cells ready = AllByRecursion (λ (p : CellCommitValue). TakesCommit (next_stamp book) (value_at cells p.at)) ready.plans

-- why a commit is refused: its number would be past the last one; its CPU has no closed journal; a cell does not take it;
-- or memory was wanted, as the book has less room than it needs
abbrev pub RefusesCommit : BookValue → List (ℕ × CellValue) → ReadyValue → ℕ → Fault → Type 0
RefusesCommit book cells ready cpu refusal =
    ((refusal ≡ fault.CommitLimit) × (book.state.commit ≡ NUMBER))
    ⊎ ((refusal ≡ fault.Mismatch part.Records) × (IsClosed book.state cpu → ⊥))
    ⊎ ((refusal ≡ fault.Mismatch part.Index) × (TakeNext book.state cells ready → ⊥))
    ⊎ ((refusal ≡ out_of_memory) × (book.room < ready.need))

-- the commit of what is ready, as the book's next
abbrev pub next_commit : BookState → ReadyValue → CommitValue
next_commit book ready = begun (next_stamp book) ready

-- the cells after a commit: those that get entries have them, and all others are as they were
abbrev pub CommitsCells : BookState → ReadyValue → List (ℕ × CellValue) → List (ℕ × CellValue) → Type 0
CommitsCells book ready old new = ChangesPlanned ready.plans (committed (ids book.snaps) old (next_commit book ready)) old new

-- the book after a commit
abbrev pub after_commit : ℕ → List (ℕ × CellValue) → ReadyValue → BookState → BookState
after_commit seat cells ready book = record (after_enter seat book) {
  manifests = manifests_after (ids book.snaps) book.snaps.epoch (killing cells (next_commit book ready)) (length ready.plans)
      book.manifests;
}
