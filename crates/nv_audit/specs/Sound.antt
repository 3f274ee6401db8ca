-- What a cell's bytes must be for its log to store a node.
use Rattle.std.specs.Prelude.{◌≡◌, ℕ, ◌+◌, ◌*◌, ◌<◌, ◌≤◌, List, Some, slice_index_or}
use Rattle.nv_cell.specs.Cell.{CellState, log_of}
use Rattle.nv_cell.specs.Pages.{own_page}
use Rattle.nv_entry.specs.Keys.{pages_for}
use Rattle.nv_entry.specs.Node.{block_now, size_now}
use Rattle.nv_entry.specs.declared.item.Entry.{Entry}

-- how many bytes the file of a cell has
abbrev pub own_size : CellState → ℕ
own_size cell = size_now cell.block (log_of cell)

-- no page of a log lies past the size that it gives
abbrev pub AreLogPagesWithin : ℕ → List Entry → Type 0
AreLogPagesWithin block log =
    (page number : ℕ) → block_now block log page ≡ Some number → page < pages_for block (size_now block log)

-- no page of a cell's file lies past its size
abbrev pub ArePagesWithin : CellState → Type 0
ArePagesWithin cell = AreLogPagesWithin cell.block (log_of cell)

-- no byte of a page past the size is another than 0
abbrev pub AreZerosPast : CellState → Type 0
AreZerosPast cell =
    (page place : ℕ) → own_size cell ≤ page * cell.block + place → slice_index_or (own_page cell page) place 0 ≡ 0

-- THE FILE ENDS AT ITS SIZE.
-- Example: with blocks of 4 bytes a file of 5 bytes has the pages 0 and 1 at most, and the last
-- three bytes of page 1 are 0.
pub record EndsAtSize (cell : CellState) : Type 0 where
  -- no page of the file lies past its size
  pub pages : ArePagesWithin cell
  -- each byte of a page past the size is 0
  pub zeros : AreZerosPast cell
