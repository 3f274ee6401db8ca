-- The world of atomic steps: what is shared, and what is each actor's own.
pub use Rattle.nv_reader.specs.Showing.{Showing}
use Rattle.std.specs.Prelude.{ℕ, Bool, List, [], Option, None, Result, slice_index_or, slice_set}
use Rattle.nv_calls.specs.declared.looked.LookupResult.{LookupResult}
use Rattle.nv_alloc.specs.Block.{BlockValue}
use Rattle.nv_alloc.specs.FreeList.{FreeBlocks}
use Rattle.nv_alloc.specs.InodePool.{FreeInodes}
use Rattle.nv_base.specs.declared.fault.Fault.{Fault}
use Rattle.nv_base.specs.declared.geometry.GeometryNumbers.{GeometryNumbers}
use Rattle.nv_base.specs.declared.numbers.Handle.{Handle}
use Rattle.nv_book.specs.Book.{BookState}
use Rattle.nv_book.specs.declared.record.Record.{Record}
use Rattle.nv_calls.specs.declared.answer.Answer.{Answer}
use Rattle.nv_calls.specs.declared.call.Call.{Call}
use Rattle.nv_calls.specs.declared.plan.InodePlan.{InodePlan}
use Rattle.nv_cell.specs.Cell.{CellState, empty_cell}
use Rattle.nv_cell.specs.declared.killed.KilledPart.{KilledPart}
use Rattle.nv_clean.specs.declared.cleaned.Cleaned.{Cleaned}
use Rattle.nv_entry.specs.declared.tree.TreeNode.{TreeNode}

-- ---- what is shared

-- what all actors share, part by part
pub record Shared : Type 0 where
  -- the free list of each CPU
  pub lists : List FreeBlocks
  -- the free inode numbers
  pub pool : FreeInodes
  -- the cell of each inode slot
  pub cells : List CellState
  -- of each slot the actor that has its lock
  pub owners : List (Option ℕ)
  -- epoch, commit number, snapshots, records and journals
  pub book : BookState
  -- the actor that has the commit lock
  pub holder : Option ℕ

-- ---- what is an actor's own

-- an actor's hand: what its call has taken and not yet placed
pub record HandState : Type 0 where
  -- data blocks, in the order in which they were taken or set free
  pub blocks : List BlockValue
  -- log pages that were taken, or that an `unlink` step took out of a chain
  pub pages : List BlockValue
  -- the log pages of a chain that was erased or compacted
  pub chain : List BlockValue
  -- the number of a new inode, or of one that was erased
  pub ino : Option ℕ
  -- the killed parts of each inode that is published and not yet retired, in order
  pub killed : List (List KilledPart)

-- how far a drain has come
pub record Draining : Type 0 where
  -- how many records it has released
  pub released : ℕ
  -- how many more it may release behind the one that it picks next, or has picked
  pub left : ℕ

-- how a cleaner cleans a log
pub data Manner : Type 0 where
  -- log pages go whole, each where all of its entries may go
  Fast : Manner
  -- entries go one by one, and those that stay move to fresh log pages
  Thorough : Manner
  -- as `Thorough` where less than half of the entries stay, and else as `Fast`
  Auto : Manner

-- a step of a call on snapshots, or of a cleaner
pub data SnapshotOrCleanerStep : Type 0 where
  -- the present epoch becomes a snapshot, and the next one begins
  Make : SnapshotOrCleanerStep
  -- the snapshot lives no more
  Drop : (snapshot : ℕ) → SnapshotOrCleanerStep
  -- the snapshot has one more pin, which keeps it from being dropped
  Pin : (snapshot : ℕ) → SnapshotOrCleanerStep
  -- one cell is read as it was at the snapshot, while nobody has its lock
  Show : (snapshot : ℕ) (showing : Showing) → SnapshotOrCleanerStep
  -- the pin goes, and the nodes that were seen are the answer
  Unpin : (snapshot : ℕ) (seen : List TreeNode) → SnapshotOrCleanerStep
  -- the first deferred record leaves the list, and is the drain's
  Pick : (draining : Draining) → SnapshotOrCleanerStep
  -- the drain locks the slot of the record that it has picked
  LockPicked : (draining : Draining) (picked : Record) → SnapshotOrCleanerStep
  -- the part of the record is put out, and its block goes to the hand
  Release : (draining : Draining) (picked : Record) → SnapshotOrCleanerStep
  -- the cleaner locks the slot whose log it is to clean
  LockCleaned : (manner : Manner) (ino : ℕ) → SnapshotOrCleanerStep
  -- a walk of the log finds what may go; a number out of range has no slot
  PlanCleaning : (manner : Manner) (slot : Option ℕ) → SnapshotOrCleanerStep
  -- a list gives log pages; `asked` were asked before, `wanted` pages are lacking
  Fresh : (ino asked wanted : ℕ) → SnapshotOrCleanerStep
  -- the log pages that nothing needs go to the hand
  Unlink : (ino : ℕ) → SnapshotOrCleanerStep
  -- the entries that stay move to the fresh log pages
  Compact : (ino : ℕ) → SnapshotOrCleanerStep

-- the step of a call that comes next, with its place where it is one of a loop
pub data Next : Type 0 where
  -- the lowest free inode number goes to the hand
  Number : Next
  -- names are looked up in the directory at this place, while nobody has its lock
  Look : (place : ℕ) → Next
  -- the slot at this place is locked
  Lock : (place : ℕ) → Next
  -- the tests of the call are made, and room in the hand for what it takes
  Check : Next
  -- a list gives data blocks; so many lists were asked before
  TakeBlocks : (asked : ℕ) → Next
  -- a list gives log pages; so many lists were asked before
  TakeLogPages : (asked : ℕ) → Next
  -- the plan and all its room are made, and the fresh blocks get their bytes
  Ready : Next
  -- the commit lock is taken, and the commit gets its number and its epoch
  Enter : Next
  -- the inode at this place gets its entries past the tail, with their blocks
  Append : (place : ℕ) → Next
  -- the journal of the actor's CPU notes the old tails
  Open : Next
  -- the tail of the inode at this place moves over its new entries
  Publish : (place : ℕ) → Next
  -- the journal notes nothing any more
  Close : Next
  -- the killed parts of the inode at this place are kept with a record, or put out
  Retire : (place : ℕ) → Next
  -- the commit lock is given back
  Leave : Next
  -- the lock of the slot at this place is given back
  Unlock : (place : ℕ) → Next
  -- the blocks in the hand that are at home on this CPU go to its list
  Give : (cpu : ℕ) → Next
  -- the number in the hand goes back to the pool
  ReturnNumber : Next
  -- one cell is read, while nobody has its lock, and the call ends
  Visit : Next
  -- a step of a call on snapshots, or of a cleaner
  SnapshotOrCleaner : (step : SnapshotOrCleanerStep) → Next

-- how a call is to end once it has given up what it holds
pub data Ending : Type 0 where
  -- with its answer
  Answers : Ending
  -- refused, for this fault
  Refuses : (fault : Fault) → Ending
  -- not yet: a name was bound anew, so the looks are made again, as long as rounds are left
  BoundAnew : Ending
  -- with how many records were released; it goes on to the next as long as it may
  Drains : (draining : Draining) → Ending
  -- with what the cleaner has cleaned
  Cleans : (cleaned : Cleaned) → Ending

-- a call that runs, before the step that comes next
pub record Running : Type 0 where
  -- the call
  pub call : Call
  -- the step that comes next
  pub next : Next
  -- how it is to end
  pub ending : Ending
  -- what its looks found
  pub looked : LookupResult
  -- how many more rounds of looks it may make behind this one
  pub rounds : ℕ
  -- the slots that it locks, rising
  pub slots : List ℕ
  -- the handle of a new inode, from `check` on; before it, and for other calls, the root's
  pub made : Handle
  -- how many blocks its taking still wants
  pub wanted : ℕ
  -- the entries that it will append, as items for each inode, from `ready` on
  pub plan : List InodePlan
  -- the number of its commit, from `enter` on
  pub commit : ℕ
  -- the epoch of its commit, from `enter` on
  pub epoch : ℕ

-- what an actor has: its hand and the call that it runs
pub record Actor : Type 0 where
  -- what its call has taken and not yet placed
  pub hand : HandState
  -- its call, if it runs one
  pub running : Option Running

-- ---- the world

-- the world of the machine: its parts as the crates below show them, without their rooms
pub record World : Type 0 where
  -- how many blocks, CPUs, slots, snapshots, actors; the bytes of a block, a log page's entries
  pub numbers : GeometryNumbers
  -- what all actors share
  pub shared : Shared
  -- what each actor has
  pub actors : List Actor

-- what an actor does to the world
pub data Event : Type 0 where
  -- the actor starts this call
  Start : (actor : ℕ) (call : Call) → Event
  -- one step of its call; `granted` says whether memory is there, where the step asks for some
  Go : (actor : ℕ) (granted : Bool) → Event

-- what an event is replied
pub data Reply : Type 0 where
  -- the call was started
  Started : Reply
  -- a step was made, and more are to come
  Moved : Reply
  -- nothing was done: another actor has the lock that the step needs
  Waiting : Reply
  -- the last step was made, and the call has this answer
  Done : (answer : Answer) → Reply
  -- the call is refused, or the event: the actor is absent, busy or idle
  Refused : (fault : Fault) → Reply

-- what a step comes to
pub data Turn : Type 0 where
  -- it was made: what is shared, the hand and the call after it
  Moves : Shared → HandState → Running → Turn
  -- it was not made, and nothing changes
  Waits : Turn
  -- it was the last one: what the call is answered, what is shared, and the hand
  Ends : Result Answer Fault → Shared → HandState → Turn

-- ---- parts by their places

-- the list of a CPU that is not there
abbrev pub no_list : FreeBlocks
no_list = record { start = 0; end = 0; size = 0; blocks = [] }

-- the cell of a slot that is not there
abbrev pub no_cell : CellState
no_cell = empty_cell 0 0 0 0

-- a hand with nothing in it
abbrev pub empty_hand : HandState
empty_hand = record { blocks = []; pages = []; chain = []; ino = None; killed = [] }

-- an actor without a call, with an empty hand
abbrev pub idle : Actor
idle = record { hand = empty_hand; running = None }

-- the free list of a CPU
abbrev pub list_at : Shared → ℕ → FreeBlocks
list_at s cpu = slice_index_or s.lists cpu no_list

-- the cell of an inode slot
abbrev pub cell_at : Shared → ℕ → CellState
cell_at s ino = slice_index_or s.cells ino no_cell

-- the actor that has the lock of a slot, if one has it
abbrev pub owner_at : Shared → ℕ → Option ℕ
owner_at s ino = slice_index_or s.owners ino None

-- what an actor has
abbrev pub actor_at : World → ℕ → Actor
actor_at w actor = slice_index_or w.actors actor idle

-- what is shared, with another free list of a CPU
abbrev pub with_list : ℕ → FreeBlocks → Shared → Shared
with_list cpu list s = record s { lists = slice_set s.lists cpu list }

-- what is shared, with another cell of a slot
abbrev pub with_cell : ℕ → CellState → Shared → Shared
with_cell ino cell s = record s { cells = slice_set s.cells ino cell }

-- what is shared, with another owner of a slot's lock
abbrev pub with_owner : ℕ → Option ℕ → Shared → Shared
with_owner ino owner s = record s { owners = slice_set s.owners ino owner }

-- what is shared, with other free inode numbers
abbrev pub with_numbers : List ℕ → Shared → Shared
with_numbers numbers s = record s { pool = record s.pool { numbers = numbers } }

-- what is shared, with another book
abbrev pub with_book : BookState → Shared → Shared
with_book book s = record s { book = book }

-- a running call with another next step
abbrev pub go_to : Next → Running → Running
go_to next r = record r { next = next }
