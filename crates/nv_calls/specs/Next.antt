-- What cells are between two calls, by what the book has fixed so far.
use Rattle.std.specs.Prelude.{ℕ, ◌+◌, ◌<◌, ◌≤◌, List, length}
use Rattle.std.specs.Option.{ForSome}
use Rattle.nv_base.specs.declared.limits.TheConstants.{NUMBER}
use Rattle.nv_log.specs.Chain.{last_epoch, last_id}
use Rattle.nv_cell.specs.Cell.{CellState, CellValue}
use Rattle.nv_calls.specs.declared.stamp.Stamp.{Stamp}
use Rattle.nv_calls.specs.Cells.{ino_at, state_at}

-- a cell is up to a commit and an epoch; `before` is its version before the first commit
pub record IsUpTo (stamp : Stamp) (before : ℕ) (cell : CellState) : Type 0 where
  -- the last entry is of no later commit
  pub commit : ForSome (last_id cell.chain) (λ last. last.commit ≤ stamp.commit)
  -- the last entry is of no later epoch
  pub epoch : ForSome (last_epoch cell.chain) (λ last. last ≤ stamp.epoch)
  -- the version rose by one a commit at most, from `before` on
  pub version : cell.version ≤ stamp.commit + before
  -- a slot with an entry is not of the last generation
  pub generation : 0 < length cell.chain.entries → cell.generation < NUMBER

-- each cell is up to that commit and epoch; `before` gives each slot's version before the first
abbrev pub AreUpTo : Stamp → (ℕ → ℕ) → List (ℕ × CellValue) → Type 0
AreUpTo stamp before cells = (k : ℕ) → k < length cells → IsUpTo stamp (before (ino_at cells k)) (state_at cells k)
