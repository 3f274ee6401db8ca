-- A call that is ready to be committed.
use Rattle.std.specs.Prelude.{ℕ, ◌<◌, List, [], AllPairs, length, map, Option, slice_index_or}
use Rattle.std.specs.List.{sum_by}
use Rattle.nv_alloc.specs.declared.hand.Hand.{Hand}
use Rattle.nv_base.specs.declared.numbers.Handle.{Handle}
use Rattle.nv_entry.specs.declared.item.Item.{Item}
use Rattle.nv_cell.specs.Cell.{CellValue, log_of}
use Rattle.nv_cell.specs.Weights.{weights_in}
use Rattle.nv_cell.specs.declared.killed.KilledPart.{KilledPart}
use Rattle.nv_journal.specs.declared.old_tail.OldTail.{OldTail}
use Rattle.nv_calls.specs.declared.update.Update.{Update}
use Rattle.nv_calls.specs.Cells.{ino_at, state_at}

-- what a commit does to one of the call's cells
pub record CellCommitValue : Type 0 where
  -- the place of the cell among the call's cells
  pub at : ℕ
  -- the items that are yet to be appended to its log
  pub items : List Item
  -- the parts that their publish killed and that are yet to be retired
  pub killed : List KilledPart

-- a call that is ready: its growths are made, and its blocks are taken
pub record ReadyValue : Type 0 where
  -- the call
  pub update : Update
  -- the handle of the inode that the call makes, if it makes one
  pub made : Option Handle
  -- what is appended, cell by cell, by rising place of the cells
  pub plans : List CellCommitValue
  -- the data blocks and log pages of the call, and the number of a new inode
  pub hand : Hand
  -- for how many records the commit needs room in the book
  pub need : ℕ

-- a plan of nothing
abbrev pub no_plan : CellCommitValue
no_plan = record { at = 0; items = []; killed = [] }

-- the plan at a place
abbrev pub plan_at : List CellCommitValue → ℕ → CellCommitValue
plan_at plans j = slice_index_or plans j no_plan

-- where the cells of plans stand
pub record ArePlaced (cells : List (ℕ × CellValue)) (plans : List CellCommitValue) : Type 0 where
  -- each plan is of a cell of the call
  pub within : (j : ℕ) → j < length plans → (plan_at plans j).at < length cells
  -- the plans stand by rising place, no two of one cell
  pub rising : AllPairs (λ a b. a.at < b.at) plans

-- ---- what the journal notes

-- the inode of a plan, with the tail of its log
abbrev pub old_tail : List (ℕ × CellValue) → CellCommitValue → OldTail
old_tail cells plan = record { ino = ino_at cells plan.at; tail = (state_at cells plan.at).chain.tail }

-- the tails that a journal notes for plans
abbrev pub old_tails : List (ℕ × CellValue) → List CellCommitValue → List OldTail
old_tails cells plans = map (old_tail cells) plans

-- ---- what the commit may kill

-- how many parts the entries of a plan kill at most
abbrev pub kills_of : List (ℕ × CellValue) → CellCommitValue → ℕ
kills_of cells plan = weights_in (state_at cells plan.at).block (log_of (state_at cells plan.at)) plan.items

-- for how many records a commit needs room in the book: one for each part that it may kill
abbrev pub need_of : List (ℕ × CellValue) → List CellCommitValue → ℕ
need_of cells plans = sum_by (kills_of cells) plans
