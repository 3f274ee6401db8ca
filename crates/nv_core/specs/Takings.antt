-- What a taking from a list comes to.
use Rattle.std.specs.Prelude.{◌≡◌, ℕ, ◌-◌, ◌<◌, ◌++◌, List, drop, length, min, slice_set, take}
use Rattle.std.specs.List.{AllByRecursion}
use Rattle.nv_alloc.specs.Block.{BlockValue}
use Rattle.nv_alloc.specs.FreeList.{FreeBlocks}
use Rattle.nv_alloc.specs.Queue.{QueueValue}

-- blocks of a list have gone to a queue: so many, or all where there are fewer
pub record IsTaken (below n cpu : ℕ) (list : FreeBlocks) (old new : List FreeBlocks) (before after : QueueValue) : Type 0 where
  -- the list is without its first ones, and the other lists are as they were
  pub lists : new ≡ slice_set old cpu (record list { blocks = drop n list.blocks })
  -- the queue has them behind its own, and room for as many fewer
  pub queue : after ≡ record before { blocks = before.blocks ++ take n list.blocks; room = before.room - min n (length list.blocks) }
  -- each of them has a number below the bound
  pub own : AllByRecursion (λ (b : BlockValue). b.number < below) (take n list.blocks)
