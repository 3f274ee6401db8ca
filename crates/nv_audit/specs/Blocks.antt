-- The blocks of free lists and cells, by number.
use Rattle.std.specs.Prelude.{◌≡◌, ℕ, ◌<◌, ◌≤◌, ◌++◌, Bool, true, false, List, length}
use Rattle.std.specs.List.{flat_map}
use Rattle.nv_alloc.specs.Block.{numbers_of}
use Rattle.nv_alloc.specs.FreeList.{FreeBlocks}
use Rattle.nv_cell.specs.Cell.{CellState, stored_in}
use Rattle.nv_alloc.specs.Numbers.{times}
use Rattle.nv_audit.specs.Lists.{AreMarked, mark_at}
use Rattle.nv_audit.specs.Tree.{IsOnce}

-- the numbers of the blocks in free lists
abbrev pub blocks_free : List FreeBlocks → List ℕ
blocks_free lists = flat_map (λ (list : FreeBlocks). numbers_of list.blocks) lists

-- EVERY BLOCK, by number, as often as it stands in a free list or in a cell
abbrev pub all_blocks : List FreeBlocks → List CellState → List ℕ
all_blocks lists cells = blocks_free lists ++ flat_map stored_in cells

-- a number whose mark is not set
pub record IsUnmarked (marks : List Bool) (n : ℕ) : Type 0 where
  -- there is a mark for the number
  pub within : n < length marks
  -- the mark is not set
  pub unset : mark_at marks n ≡ false

-- each number is marked
abbrev pub AreAllSet : List Bool → Type 0
AreAllSet marks = (n : ℕ) → n < length marks → mark_at marks n ≡ true

-- numbers below a bound, each of them once
pub record AreOnceBelow (many : ℕ) (numbers : List ℕ) : Type 0 where
  -- each number of the list is below `many`
  pub within : (n : ℕ) → 1 ≤ times n numbers → n < many
  -- no number stands in the list twice
  pub once : IsOnce numbers

-- the marks of numbers below a bound, each of which stands in the list once
pub record AreMarksOnce (many : ℕ) (numbers : List ℕ) (marks : List Bool) : Type 0 where
  -- a number below `many` is marked exactly where it stands in the list
  pub marked : AreMarked many numbers marks
  -- each number of the list is below `many`, and stands there once
  pub below : AreOnceBelow many numbers
