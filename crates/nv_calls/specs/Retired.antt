-- What has to hold before the parts that a publish killed are retired.
use Rattle.std.specs.Prelude.{◌≡◌, ◌<◌, true, List, length, map, None}
use Rattle.nv_alloc.specs.declared.hand.Hand.{Hand}
use Rattle.nv_base.specs.declared.limits.TheConstants.{NUMBER}
use Rattle.nv_cell.specs.Cell.{CellState, log_of}
use Rattle.nv_cell.specs.Killed.{AreKilled}
use Rattle.nv_cell.specs.Readers.{is_gone}
use Rattle.nv_cell.specs.declared.killed.KilledPart.{KilledPart}
use Rattle.nv_calls.specs.Retiring.{part_in}

-- the chain and the number of an inode that is gone can go to a hand
pub record CanTakeGone (hand : Hand) (cell : CellState) : Type 0 where
  -- the slot is not of the last generation
  pub generation : cell.generation < NUMBER
  -- the hand holds no chain of an erased inode
  pub chain : length hand.chain ≡ 0
  -- the hand holds no inode number
  pub number : hand.ino ≡ None

-- these parts of a cell can be retired, and a hand takes what goes free
pub record CanRetire (killed : List KilledPart) (hand : Hand) (cell : CellState) : Type 0 where
  -- each of the parts is marked killed, and none is named twice
  pub marked : AreKilled (map part_in killed) cell
  -- the hand's data blocks have the block size of the cell
  pub size : hand.data.size ≡ cell.block
  -- no entry stands past the tail of the cell
  pub published : cell.chain.tail ≡ length cell.chain.entries
  -- the hand can take chain and number of an inode that is gone
  pub gone : is_gone (log_of cell) ≡ true → CanTakeGone hand cell
