-- When a record can be released from a cell, and when its log can be cleaned.
use Rattle.std.specs.Prelude.{◌≡◌, ◌==◌, ◌≤◌, Some, false, length, true}
use Rattle.nv_alloc.specs.declared.hand.Hand.{Hand}
use Rattle.nv_book.specs.declared.record.Record.{Record}
use Rattle.nv_calls.specs.Retired.{CanTakeGone}
use Rattle.nv_calls.specs.Retiring.{name_of}
use Rattle.nv_cell.specs.Cell.{CellState, log_of, mark_named}
use Rattle.nv_cell.specs.Readers.{has_killed, is_gone}
use Rattle.nv_cell.specs.declared.mark.Mark.TheVariants.{Kept}
use Rattle.nv_clean.specs.Cleaned.{HasPages}
use Rattle.nv_clean.specs.Plans.{UnlinkableValue, WantedValue}

-- a record can be released from a cell, with a hand that takes what this sets free, where it has room
pub record CanRelease (cell : CellState) (picked : Record) (hand : Hand) : Type 0 where
  -- its part is marked kept
  pub kept : mark_named cell (name_of picked) ≡ Some Kept
  -- the cell has no entry past its tail
  pub published : cell.chain.tail ≡ length cell.chain.entries
  -- the hand is for blocks of the cell's size
  pub size : hand.«data».size ≡ cell.block
  -- where the inode is gone, the hand can take its chain and its number
  pub gone : is_gone (log_of cell) ≡ true → CanTakeGone hand cell

-- a cell between two calls
pub record IsSettled (cell : CellState) : Type 0 where
  -- it has no entry past its tail
  pub published : cell.chain.tail ≡ length cell.chain.entries
  -- it has no part that is killed and not yet retired
  pub retired : has_killed cell ≡ false

-- the log pages that nothing needs can go to a hand
pub record CanUnlink (cell : CellState) (unlinkable : UnlinkableValue) (hand : Hand) : Type 0 where
  -- the cell is between two calls
  pub settled : IsSettled cell
  -- the hand has room for them
  pub room : unlinkable.pages ≤ hand.pages.room
  -- the hand is for log pages of the cell's size
  pub size : hand.pages.size ≡ cell.block

-- the entries that stay can move to the log pages of a hand
pub record CanCompact (cell : CellState) (wanted : WantedValue) (hand : Hand) : Type 0 where
  -- the cell is between two calls
  pub settled : IsSettled cell
  -- where any entry goes, the hand has the log pages that the others fill, and no chain
  pub pages : (wanted.dropped == 0) ≡ false → HasPages wanted hand
  -- the hand is for log pages of the cell's size
  pub size : hand.pages.size ≡ cell.block
