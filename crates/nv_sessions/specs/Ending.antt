-- What a call leaves in its hand, and what a cleaner needs of it.
use Rattle.std.specs.Prelude.{◌≡◌, ◌&&◌, ℕ, Bool, Option, Some, None, if◌then◌else◌, length, nat_lt, not}
use Rattle.nv_alloc.specs.Hand.{blocks_of}
use Rattle.nv_alloc.specs.InodePool.{FreeInodes}
use Rattle.nv_alloc.specs.Numbers.{has, put_by}
use Rattle.nv_alloc.specs.declared.hand.Hand.{Hand}
use Rattle.nv_calls.specs.declared.snapshot_or_cleaner_call.SnapshotOrCleanerCall.{SnapshotOrCleanerCall}
use Rattle.nv_calls.specs.declared.snapshot_or_cleaner_call.SnapshotOrCleanerCall.TheVariants as snapshot_or_cleaner
use Rattle.nv_cell.specs.Cell.{CellState}
use Rattle.nv_sessions.specs.Cleaning.{IsSettled}
use Rattle.nv_steps.specs.declared.planning.Manner.{Manner}
use Rattle.nv_steps.specs.declared.planning.Manner.TheVariants as manner

-- a hand that holds nothing
pub record IsEmptyHand (hand : Hand) : Type 0 where
  -- it has no block
  pub blocks : length (blocks_of hand) ≡ 0
  -- it has no inode number
  pub number : hand.ino ≡ None

-- the call of a cleaner of that manner
abbrev pub cleaner_of : Manner → ℕ → SnapshotOrCleanerCall
cleaner_of manner.Fast ino = snapshot_or_cleaner.Fast ino
cleaner_of manner.Thorough ino = snapshot_or_cleaner.Thorough ino
cleaner_of manner.Auto ino = snapshot_or_cleaner.Auto ino

-- a pool takes the number of a slot that is not free already
abbrev pub takes : FreeInodes → ℕ → Bool
takes pool ino = nat_lt ino pool.inodes && not (has pool.numbers ino)

-- the pool with the number of a hand, where it takes it
abbrev pub pool_with : FreeInodes → Option ℕ → FreeInodes
pool_with pool None = pool
pool_with pool (Some ino) =
    if takes pool ino then record pool { numbers = put_by (λ (n : ℕ). n) ino pool.numbers } else pool

-- what is left of a number in the hand, where the pool does not take it
abbrev pub left_over : FreeInodes → Option ℕ → Option ℕ
left_over pool None = None
left_over pool (Some ino) = if takes pool ino then None else Some ino

-- a cell can be cleaned, with this hand
pub record CanClean (block : ℕ) (cell : CellState) (hand : Hand) : Type 0 where
  -- nothing is left to publish or to retire
  pub settled : IsSettled cell
  -- its blocks have the device's size
  pub size : cell.block ≡ block
  -- the hand is for log pages of the device's size
  pub hand_size : hand.pages.size ≡ block
