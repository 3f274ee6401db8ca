-- Pools of inode numbers.
use Rattle.std.specs.Prelude.{◌≡◌, ℕ, ◌<◌, ◌^◌, Bool, List, length}
use Rattle.std.specs.List.{AllByRecursion}
use Rattle.nv_alloc.specs.Numbers.{IsRising}
use Rattle.nv_alloc.specs.Places.{places}

-- what clauses see of a pool of inode numbers
pub record FreeInodes : Type 0 where
  -- how many inode slots there are
  pub inodes : ℕ
  -- the free inode numbers, rising
  pub numbers : List ℕ

-- what holds of each pool
pub record IsPool (pool : FreeInodes) : Type 0 where
  -- the numbers rise
  pub rising : IsRising pool.numbers
  -- each is that of an inode slot
  pub below : AllByRecursion (λ n. n < pool.inodes) pool.numbers

-- the set of a pool's free places and its count fit the number of inode slots
pub record IsCounted (inodes count : ℕ) (free : List Bool) : Type 0 where
  -- the set has a place for each inode slot
  pub sized : length free ≡ inodes
  -- the count is how many places are in the set
  pub counted : count ≡ length (places 0 free)
  -- there are fewer than 2^32 inode slots
  pub small : inodes < 2 ^ 32
