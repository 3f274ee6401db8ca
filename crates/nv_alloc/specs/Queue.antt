-- Queues of blocks of one size.
use Rattle.std.specs.Prelude.{ℕ, ◌+◌, ◌-◌, List, length}
use Rattle.nv_alloc.specs.Block.{BlockValue}
use Rattle.nv_alloc.specs.FreeList.{FreeBlocks}
use Rattle.nv_alloc.specs.Giving.{not_taken}

-- what clauses see of a queue of blocks
pub record QueueValue : Type 0 where
  -- the blocks, of which the first is taken out next
  pub blocks : List BlockValue
  -- how many bytes a block has
  pub size : ℕ
  -- how many more blocks fit without memory
  pub room : ℕ

-- the queue once its blocks were offered to the list
abbrev pub after_home : FreeBlocks → QueueValue → QueueValue
after_home list queue =
    record queue { blocks = not_taken list queue.blocks; room = queue.room + length queue.blocks - length (not_taken list queue.blocks) }
