-- What a step is lent of all that is shared, and that it leaves the rest as it is.
use Rattle.std.specs.Prelude.{◌≡◌, ◌≢◌, ℕ, ◌<◌, Bool, true, false, length, Option, Some, None}
use Rattle.nv_calls.specs.declared.call.Call.{Call}
use Rattle.nv_machine.specs.Kinds.{asked_list}
use Rattle.nv_machine.specs.Reads.{slot_at, written_slots}
use Rattle.nv_machine.specs.Sequence.{beginning, begun}
use Rattle.nv_machine.specs.Step.{Step, turn, turned}
use Rattle.nv_machine.specs.World.{Append, ReturnNumber, Check, Close, Compact, Ends, Enter, Fresh, Give, PlanCleaning, Leave, Lock, LockCleaned, LockPicked, Look, Moves, Next, Number, Open, Publish, Ready, Release, Retire, Running, Shared, Show, SnapshotOrCleanerStep, SnapshotOrCleaner, Started, TakeBlocks, TakeLogPages, Turn, Unlink, Unlock, Visit, Waits, World, actor_at, cell_at, list_at, owner_at}

-- the parts of what is shared that a step may change
pub record Lent : Type 0 where
  -- the CPU whose free list it may take from or give to
  pub list : Option ℕ
  -- whether it may take an inode number out of the pool, or put one back
  pub pool : Bool
  -- the slot whose cell it may change
  pub cell : Option ℕ
  -- the slot whose lock it may take or give back
  pub lock : Option ℕ
  -- whether it may change the book
  pub book : Bool
  -- whether it may take the commit lock, or give it back
  pub commit_lock : Bool

-- a step that is lent nothing
abbrev pub nothing_lent : Lent
nothing_lent = record { list = None; pool = false; cell = None; lock = None; book = false; commit_lock = false }

-- what a step of a call on snapshots or of a cleaner is lent, with so many CPUs
abbrev pub lent_on : SnapshotOrCleanerStep → ℕ → ℕ → Lent
lent_on (Show snapshot showing) cpus actor = nothing_lent
lent_on (LockPicked draining picked) cpus actor = record nothing_lent { lock = Some picked.ino }
lent_on (Release draining picked) cpus actor = record nothing_lent { cell = Some picked.ino }
lent_on (LockCleaned manner ino) cpus actor = record nothing_lent { lock = Some ino }
lent_on (PlanCleaning manner slot) cpus actor = nothing_lent
lent_on (Fresh ino asked wanted) cpus actor = record nothing_lent { list = Some (asked_list cpus actor asked) }
lent_on (Unlink ino) cpus actor = record nothing_lent { cell = Some ino }
lent_on (Compact ino) cpus actor = record nothing_lent { cell = Some ino }
lent_on other cpus actor = record nothing_lent { book = true }

-- WHAT A STEP IS LENT, with so many CPUs: of lists, cells and locks at most one, the pool, the
-- book, the commit lock
abbrev pub lent : Next → ℕ → ℕ → Running → Lent
lent Number cpus actor r = record nothing_lent { pool = true }
lent (Look place) cpus actor r = nothing_lent
lent (Lock place) cpus actor r = record nothing_lent { lock = Some (slot_at r.slots place) }
lent Check cpus actor r = nothing_lent
lent (TakeBlocks asked) cpus actor r = record nothing_lent { list = Some (asked_list cpus actor asked) }
lent (TakeLogPages asked) cpus actor r = record nothing_lent { list = Some (asked_list cpus actor asked) }
lent Ready cpus actor r = nothing_lent
lent Enter cpus actor r = record nothing_lent { book = true; commit_lock = true }
lent (Append place) cpus actor r = record nothing_lent { cell = Some (slot_at (written_slots r) place) }
lent Open cpus actor r = record nothing_lent { book = true }
lent (Publish place) cpus actor r = record nothing_lent { cell = Some (slot_at (written_slots r) place) }
lent Close cpus actor r = record nothing_lent { book = true }
lent (Retire place) cpus actor r = record nothing_lent { book = true; cell = Some (slot_at (written_slots r) place) }
lent Leave cpus actor r = record nothing_lent { commit_lock = true }
lent (Unlock place) cpus actor r = record nothing_lent { lock = Some (slot_at r.slots place) }
lent (Give cpu) cpus actor r = record nothing_lent { list = Some cpu }
lent ReturnNumber cpus actor r = record nothing_lent { pool = true }
lent Visit cpus actor r = nothing_lent
lent (SnapshotOrCleaner step) cpus actor r = lent_on step cpus actor

-- what is not lent stays
abbrev pub Stays : Bool → Type 0 → Type 0
Stays true claim = Unit {0}
Stays false claim = claim

-- THE FRAME: all that is not lent is as before, and no part comes or goes
pub record Frame (l : Lent) (s t : Shared) : Type 0 where
  -- every list that is not lent is as it was
  pub lists : (cpu : ℕ) → l.list ≢ Some cpu → list_at t cpu ≡ list_at s cpu
  -- the pool is as it was, unless it is lent
  pub pool : Stays l.pool (t.pool ≡ s.pool)
  -- every cell that is not lent is as it was
  pub cells : (ino : ℕ) → l.cell ≢ Some ino → cell_at t ino ≡ cell_at s ino
  -- every slot's lock that is not lent is as it was
  pub owners : (ino : ℕ) → l.lock ≢ Some ino → owner_at t ino ≡ owner_at s ino
  -- the book is as it was, unless it is lent
  pub book : Stays l.book (t.book ≡ s.book)
  -- the commit lock is as it was, unless it is lent
  pub holder : Stays l.commit_lock (t.holder ≡ s.holder)
  -- no list comes or goes
  pub cpus : length t.lists ≡ length s.lists
  -- no cell comes or goes
  pub slots : length t.cells ≡ length s.cells
  -- no slot's lock comes or goes
  pub locks : length t.owners ≡ length s.owners

-- a turn leaves what is not lent
abbrev pub IsFramed : Lent → Shared → Turn → Type 0
IsFramed l s (Moves t h r) = Frame l s t
IsFramed l s Waits = Unit {0}
IsFramed l s (Ends result t h) = Frame l s t

-- ---- events

-- an event of this actor leaves all other actors, and the device's numbers
pub record LeavesOthers (actor : ℕ) (w v : World) : Type 0 where
  -- each other actor has its hand and its call as before
  pub others : (b : ℕ) → b ≢ actor → actor_at v b ≡ actor_at w b
  -- no actor comes or goes
  pub count : length v.actors ≡ length w.actors
  -- the device's numbers are as before
  pub numbers : v.numbers ≡ w.numbers

-- ONE STEP: what an actor's Go comes to is the turn of the step that comes next in its call, which changes its actor
-- and the parts that it is lent, and nothing else
pub record IsOneStep (w : World) (actor : ℕ) (granted : Bool) (r : Running) (made : Step) : Type 0 where
  -- it is the turn of the step that comes next
  pub is_turn : made ≡ turned (turn w.numbers.block actor granted w.shared (actor_at w actor).hand r) actor w
  -- what the step is not lent stays
  pub frame : Frame (lent r.next (length w.shared.lists) actor r) w.shared made.world.shared
  -- all other actors stay
  pub others : LeavesOthers actor w made.world

-- A START changes its actor alone
pub record IsCallStart (w : World) (actor : ℕ) (c : Call) (made : Step) : Type 0 where
  -- nothing that is shared changes
  pub shared : made.world.shared ≡ w.shared
  -- all other actors stay
  pub others : LeavesOthers actor w made.world
  -- an actor without a call has this one now, before its first step, and its hand as it was
  pub own : actor < length w.actors → (actor_at w actor).running ≡ None → (made.reply ≡ Started)
      × (actor_at made.world actor ≡ record { hand = (actor_at w actor).hand; running = Some (begun (beginning c) w.shared c) })
