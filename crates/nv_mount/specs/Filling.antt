-- The next cell of a mount, whose data blocks are at home.
use Rattle.std.specs.Prelude.{◌≡◌, ℕ, ◌<◌, true, List, [], ◌++◌, length}
use Rattle.nv_alloc.specs.Block.{numbers_of}
use Rattle.nv_alloc.specs.FreeList.{FreeBlocks}
use Rattle.nv_alloc.specs.Queue.{QueueValue}
use Rattle.nv_audit.specs.Faults.{IsFaultless}
use Rattle.nv_audit.specs.Image.{ImageValue}
use Rattle.nv_cell.specs.declared.plan.CellPlan.{CellPlan}
use Rattle.nv_log.specs.Chain.{ChainValue}
use Rattle.nv_mount.specs.Build.{AreFree, IsApart}
use Rattle.nv_mount.specs.Plan.{HavePageRoom, IsCellPlan, is_erased}
use Rattle.nv_mount.specs.View.{IsSeen, ViewValue, slot_in}

-- the next slot is `ino`, and its inode is not erased
pub record IsStaying (image : ImageValue) (view : ViewValue) (ino : ℕ) (owed : List ℕ) (pages : QueueValue) (generation tail : ℕ) (chain : ChainValue)
    (plan : CellPlan) (lists : List FreeBlocks) : Type 0 where
  -- the image has no fault
  pub faultless : IsFaultless image
  -- the view is of the image
  pub seen : IsSeen image view
  -- the slot is one of the image
  pub within : ino < length image.slots
  -- the generation is that of the slot
  pub generation_is : generation ≡ (slot_in view ino).generation
  -- the chain is the one that the plan saw
  pub chain_is : chain ≡ (slot_in view ino).chain
  -- the inode stays, and tail and plan are those of its cut log
  pub planned : IsCellPlan image view ino tail plan
  -- the queue for log pages that the cut gives away has no block
  pub none : pages.blocks ≡ []
  -- that queue takes blocks of the device's size, in bytes
  pub size : pages.size ≡ image.numbers.block
  -- that queue has room for the pages that a cut of any log gives away
  pub room : HavePageRoom image view pages.room
  -- no block of the slot is in a made cell, or to come from elsewhere
  pub apart : IsApart image ino owed
  -- free is each block, except those of made cells, of the chain, and of `owed`
  pub free : AreFree image ino (numbers_of chain.state.blocks ++ owed) lists

-- the next slot is `ino`, and its inode is erased
pub record IsErasing (image : ImageValue) (view : ViewValue) (ino : ℕ) (owed : List ℕ) (generation : ℕ) (chain : ChainValue)
    (lists : List FreeBlocks) : Type 0 where
  -- the image has no fault
  pub faultless : IsFaultless image
  -- the view is of the image
  pub seen : IsSeen image view
  -- the slot is one of the image
  pub within : ino < length image.slots
  -- the generation is that of the slot
  pub generation_is : generation ≡ (slot_in view ino).generation
  -- the chain is the one that the plan saw
  pub chain_is : chain ≡ (slot_in view ino).chain
  -- the inode is gone, and no living snapshot holds a pair of it
  pub erased : is_erased image ino ≡ true
  -- no block of the slot is in a made cell, or to come from elsewhere
  pub apart : IsApart image ino owed
  -- free is each block, except those of made cells, of the chain, and of `owed`
  pub free : AreFree image ino (numbers_of chain.state.blocks ++ owed) lists
