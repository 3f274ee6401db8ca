-- The pool of inode numbers by one scan of all slots.
use Rattle.std.specs.Prelude.{◌≡◌, ◌||◌, ℕ, Bool, List, Option, slice_index_or, unwrap_or}
use Rattle.nv_base.specs.declared.geometry.GeometryNumbers.{GeometryNumbers}
use Rattle.nv_alloc.specs.InodePool.{FreeInodes}
use Rattle.nv_alloc.specs.Numbers.{unused}
use Rattle.nv_cell.specs.Cell.{CellState, empty_cell}
use Rattle.nv_cell.specs.Readers.{has_inode, is_withheld}

-- the number of a slot is in use: the slot has an inode, or is withheld
abbrev pub is_in_use : CellState → Bool
is_in_use cell = has_inode cell || is_withheld cell

-- the cell of a slot; an empty one where there is none
abbrev pub no_cell : CellState
no_cell = empty_cell 0 0 0 0

-- the cell, or an empty one
abbrev pub cell_or_none : Option CellState → CellState
cell_or_none cell = unwrap_or cell no_cell

-- the inode number is in use
abbrev pub is_used : List CellState → ℕ → Bool
is_used cells ino = is_in_use (slice_index_or cells ino no_cell)

-- THE POOL OF A DEVICE AT REST
pub record IsPoolOf (g : GeometryNumbers) (cells : List CellState) (pool : FreeInodes) : Type 0 where
  -- the pool is made for as many inode slots as the device has
  pub inodes : pool.inodes ≡ g.inodes
  -- the free numbers are those of slots that are not in use, rising
  pub numbers : pool.numbers ≡ unused (is_used cells) 0 g.inodes
