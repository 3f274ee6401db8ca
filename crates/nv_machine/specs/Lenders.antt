-- WHICH STEPS ARE LENT EACH PART of what is shared.
use Rattle.std.specs.Prelude.{◌≡◌, Bool, true, false, is_some}
use Rattle.nv_machine.specs.Frame.{Lent}
use Rattle.nv_machine.specs.World.{Append, ReturnNumber, Close, Compact, Drop, Enter, Fresh, Give, Leave, Lock, LockCleaned, LockPicked, Make, Next, Number, Open, Pick, Pin, Publish, Release, Retire, SnapshotOrCleanerStep, SnapshotOrCleaner, TakeBlocks, TakeLogPages, Unlink, Unlock, Unpin}

-- the step of a cleaner takes log pages from a free list
abbrev pub takes_fresh : SnapshotOrCleanerStep → Bool
takes_fresh (Fresh ino asked wanted) = true
takes_fresh other = false

-- the step takes blocks from a list, or gives them
abbrev pub moves_blocks : Next → Bool
moves_blocks (TakeBlocks asked) = true
moves_blocks (TakeLogPages asked) = true
moves_blocks (Give cpu) = true
moves_blocks (SnapshotOrCleaner step) = takes_fresh step
moves_blocks other = false

-- the step takes an inode number out of the pool, or puts one back
abbrev pub moves_numbers : Next → Bool
moves_numbers Number = true
moves_numbers ReturnNumber = true
moves_numbers other = false

-- the step of a drain or of a cleaner takes parts, entries or log pages out of a cell
abbrev pub takes_out : SnapshotOrCleanerStep → Bool
takes_out (Release draining picked) = true
takes_out (Unlink ino) = true
takes_out (Compact ino) = true
takes_out other = false

-- the step changes a log, or what is kept of it
abbrev pub changes_log : Next → Bool
changes_log (Append place) = true
changes_log (Publish place) = true
changes_log (Retire place) = true
changes_log (SnapshotOrCleaner step) = takes_out step
changes_log other = false

-- the step of a drain or of a cleaner locks a slot
abbrev pub locks_slot : SnapshotOrCleanerStep → Bool
locks_slot (LockPicked draining picked) = true
locks_slot (LockCleaned manner ino) = true
locks_slot other = false

-- the step takes a slot's lock or gives it back
abbrev pub changes_lock : Next → Bool
changes_lock (Lock place) = true
changes_lock (Unlock place) = true
changes_lock (SnapshotOrCleaner step) = locks_slot step
changes_lock other = false

-- the step changes the list of snapshots, their pins, or what is deferred
abbrev pub changes_snapshots : SnapshotOrCleanerStep → Bool
changes_snapshots Make = true
changes_snapshots (Drop snapshot) = true
changes_snapshots (Pin snapshot) = true
changes_snapshots (Unpin snapshot seen) = true
changes_snapshots (Pick draining) = true
changes_snapshots other = false

-- the step changes the book
abbrev pub changes_book : Next → Bool
changes_book Enter = true
changes_book Open = true
changes_book Close = true
changes_book (Retire place) = true
changes_book (SnapshotOrCleaner step) = changes_snapshots step
changes_book other = false

-- the step is the first of a commit, or its last
abbrev pub bounds_commit : Next → Bool
bounds_commit Enter = true
bounds_commit Leave = true
bounds_commit other = false

-- WHAT A STEP IS LENT, part by part. Example: the pool is lent to `number` and `return_number`,
-- and the book to no `check`.
pub record IsLentByTable (k : Next) (l : Lent) : Type 0 where
  -- exactly the steps that take blocks or give them are lent a free list
  pub list : is_some l.list ≡ moves_blocks k
  -- exactly the steps that take a number or put one back are lent the pool
  pub pool : l.pool ≡ moves_numbers k
  -- exactly the steps that change a log, or what is kept of it, are lent a cell
  pub cell : is_some l.cell ≡ changes_log k
  -- exactly the steps that lock or unlock a slot are lent a slot's lock
  pub lock : is_some l.lock ≡ changes_lock k
  -- exactly the steps that change the book are lent it
  pub book : l.book ≡ changes_book k
  -- exactly `enter` and `leave` are lent the commit lock
  pub commit_lock : l.commit_lock ≡ bounds_commit k
