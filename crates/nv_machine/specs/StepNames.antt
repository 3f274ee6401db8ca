-- The steps of a call by name, each with the slot, the CPU or the directory that it is of.
use Rattle.std.specs.Prelude.{ℕ}

-- the name of a step, with its inode slot or its CPU. Example: a `mode` of the file in slot 1
-- makes `lock 1`, `check`, `ready`, `enter`, `append 1`, `publish 1`, `retire 1`, `leave`, `unlock
-- 1`.
pub data StepName : Type 0 where
  -- a free inode number is taken
  Number : StepName
  -- names are looked up in the directory of this inode number
  Look : (dir : ℕ) → StepName
  -- this slot is locked
  Lock : (slot : ℕ) → StepName
  -- the call is tested
  Check : StepName
  -- the list of this CPU is asked for data blocks
  TakeBlocks : (cpu : ℕ) → StepName
  -- the list of this CPU is asked for log pages
  TakeLogPages : (cpu : ℕ) → StepName
  -- the plan is made
  Ready : StepName
  -- the commit lock is taken, and the commit is numbered
  Enter : StepName
  -- this slot gets its entries
  Append : (slot : ℕ) → StepName
  -- the journal of this CPU notes the old tails
  Open : (cpu : ℕ) → StepName
  -- the tail of this slot moves over its new entries
  Publish : (slot : ℕ) → StepName
  -- the journal of this CPU notes nothing any more
  Close : (cpu : ℕ) → StepName
  -- the killed parts of this slot are kept or put out
  Retire : (slot : ℕ) → StepName
  -- the commit lock is given back
  Leave : StepName
  -- the lock of this slot is given back
  Unlock : (slot : ℕ) → StepName
  -- blocks that are at home on this CPU go to its list
  Give : (cpu : ℕ) → StepName
  -- an inode number goes back to the pool
  ReturnNumber : StepName
  -- the cell of this inode number is read
  Visit : (slot : ℕ) → StepName
  -- a snapshot is made
  Make : StepName
  -- a snapshot is dropped
  Drop : StepName
  -- a snapshot gets a pin
  Pin : StepName
  -- the cell of this inode number is read as it was at a snapshot
  Show : (slot : ℕ) → StepName
  -- a snapshot loses a pin
  Unpin : StepName
  -- the first deferred record is picked
  Pick : StepName
  -- this slot is locked, of which the picked record is
  LockPicked : (slot : ℕ) → StepName
  -- a part of this slot is put out
  Release : (slot : ℕ) → StepName
  -- this slot is locked, which is to be cleaned
  LockCleaned : (slot : ℕ) → StepName
  -- a walk of the log finds what may go
  PlanCleaning : StepName
  -- the list of this CPU is asked for log pages that a cleaner fills
  Fresh : (cpu : ℕ) → StepName
  -- this slot loses the log pages that nothing needs
  Unlink : (slot : ℕ) → StepName
  -- the entries of this slot that stay move to fresh log pages
  Compact : (slot : ℕ) → StepName
