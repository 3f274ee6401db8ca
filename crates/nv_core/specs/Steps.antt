-- What a step is given by the laws of the machine, beside what is told of its call.
use Rattle.std.specs.Prelude.{Some, ◌≡◌, ℕ, ◌+◌, ◌<◌, ◌≤◌, ◌%◌, ◌⊎◌, false, true, [], length, None, slice_index_or}
use Rattle.std.specs.List.{AllByRecursion}
use Rattle.std.specs.Option.{ForSome, IsSomeAnd}
use Rattle.nv_alloc.specs.Block.{AreSized, BlockValue, numbers_of}
use Rattle.nv_alloc.specs.Hand.{blocks_of}
use Rattle.nv_alloc.specs.Numbers.{has, times}
use Rattle.nv_alloc.specs.declared.hand.Hand.{Hand}
use Rattle.nv_base.specs.Limits.{IsWithinLimits}
use Rattle.nv_book.specs.Book.{after_enter}
use Rattle.nv_base.specs.declared.limits.TheConstants.{NUMBER, PINS}
use Rattle.nv_book.specs.declared.record.Record.{Record}
use Rattle.nv_calls.specs.Retiring.{name_of}
use Rattle.nv_cell.specs.declared.mark.Mark.TheVariants.{Kept}
use Rattle.nv_cell.specs.Readers.{is_gone}
use Rattle.nv_entry.specs.Log.{up_to}
use Rattle.nv_epoch.specs.SnapList.{pins_of}
use Rattle.nv_machine.specs.Hands.{AreGiven, HandOn}
use Rattle.nv_machine.specs.Sequence.{slots_on}
use Rattle.nv_reader.specs.Cells.{NoneOut}
use Rattle.nv_calls.specs.CanCommit.{TakesCommit}
use Rattle.nv_calls.specs.Cells.{value_at}
use Rattle.nv_calls.specs.Commit.{stamp_of}
use Rattle.nv_calls.specs.Locked.{handles}
use Rattle.nv_calls.specs.Prepared.{HasNumberFor, IsStill, makes}
use Rattle.nv_calls.specs.Progress.{step_of}
use Rattle.nv_calls.specs.Ready.{ReadyValue}
use Rattle.nv_calls.specs.declared.progress.CommitStep.TheVariants.{Leave}
use Rattle.nv_calls.specs.SlotCells.{lent_cells}
use Rattle.nv_calls.specs.Updates.{blank_call}
use Rattle.nv_cell.specs.Cell.{CellValue, log_of, mark_named}
use Rattle.nv_machine.specs.Effects.{IsSoundIn}
use Rattle.nv_machine.specs.World.{cell_at, empty_hand, list_at}
use Rattle.nv_core.specs.Cleaning.{CanClean}
use Rattle.nv_core.specs.Nodes.{CanRead}
use Rattle.nv_core.specs.Parts.{AreHome, AreSlots, AreStill, IsOfDevice}
use Rattle.nv_core.specs.Rooms.{hand_held}
use Rattle.nv_core.specs.Shown.{hand_of, shared_of, slots_in, step_on}
use Rattle.nv_core.specs.GhostCalls.{IsChangeWith}
use Rattle.nv_core.specs.Visits.{HasOwnBytes}
use Rattle.nv_core.specs.declared.reservation.Reservation.{Reservation}
use Rattle.nv_core.specs.declared.reservation.Reservation.TheVariants as reserved
use Rattle.nv_core.specs.declared.next.Ending.TheVariants as ending
use Rattle.nv_core.specs.declared.next.Next.{Next}
use Rattle.nv_core.specs.declared.next.Next.TheVariants as next
use Rattle.nv_core.specs.declared.next.SnapshotOrCleanerStep.{SnapshotOrCleanerStep}
use Rattle.nv_core.specs.declared.next.SnapshotOrCleanerStep.TheVariants as on
use Rattle.nv_core.specs.declared.running.Running.{Running}
use Rattle.nv_core.specs.declared.shared.Shared.{Shared}

-- what a call is given before its check
pub record CanBeChecked (shared : Shared) (hand : Hand) (running : Running) : Type 0 where
  -- the cells that it holds have blocks of the device's size, and no entry past the tail
  pub still : AreStill shared (slots_in running.slots)
  -- its hand has no block
  pub empty : blocks_of hand ≡ []
  -- a number in its hand is that of a cell
  pub inside : ForSome hand.ino (λ ino. ino < length shared.cells.items)
  -- the nodes that it reads are those of the cells that it holds
  pub read : IsChangeWith (λ u. CanRead shared (slots_in running.slots) (handles running.looked (blank_call u))) running.request
  -- it makes an inode and found no number, or has that of an empty slot, or makes none
  pub number : IsChangeWith (λ u. (hand.ino ≡ None) × (makes u ≡ true)
      ⊎ HasNumberFor (lent_cells (slots_in running.slots) shared.cells.items) (makes u) hand.ino) running.request

-- what a call is given before a `give` step to this CPU
pub record CanGive (shared : Shared) (hand : Hand) (home : ℕ) : Type 0 where
  -- the CPU is there
  pub cpu : home < shared.geometry.numbers.cpus
  -- the hand has no block that is at home on a lower CPU
  pub given : AreGiven shared.geometry.numbers home (blocks_of hand)
  -- each block in the hand has the device's size
  pub sized : AreSized shared.geometry.numbers.block (blocks_of hand)
  -- no block of the hand is in that CPU's list, or twice in the hand
  pub once : (n : ℕ) → times n (numbers_of (blocks_of hand)) + times n (numbers_of (list_at (shared_of shared) home).blocks) ≤ 1

-- what a call is given before a `return number` step
pub record CanPutBack (shared : Shared) (hand : Hand) : Type 0 where
  -- the number in the hand is that of a slot
  pub inode : ForSome hand.ino (λ ino. ino < shared.pool.inodes)
  -- the pool has it not
  pub absent : ForSome hand.ino (λ ino. has shared.pool.numbers ino ≡ false)

-- what a call that is ready is given at an `enter` which finds the commit lock free
pub record CanEnter (shared : Shared) (running : Running) (ready : ReadyValue) (actor : ℕ) : Type 0 where
  -- its cells have only entries older than the next commit, and not the last version or generation
  pub take : AllByRecursion (λ p. TakesCommit (stamp_of (after_enter actor shared.book.state))
      (value_at (lent_cells (slots_in running.slots) shared.cells.items) p.at)) ready.plans
  -- the actor's CPU has a journal
  pub cpu : actor % length shared.lists.items < length shared.book.state.journals
  -- that journal notes nothing
  pub closed : slice_index_or shared.book.state.journals (actor % length shared.lists.items) [] ≡ []

-- what a call is given before it is made ready
pub record CanGetReady (shared : Shared) (running : Running) : Type 0 where
  -- it is to end with its answer
  pub answers : running.ending ≡ ending.Answers
  -- the logs of the cells that it holds are sound
  pub sound : AllByRecursion (λ (c : ℕ × CellValue). IsSoundIn c.1.state (log_of c.1.state))
      (lent_cells (slots_in running.slots) shared.cells.items)

-- what a show is given before it reads a cell
pub record CanShow (shared : Shared) (snapshot : ℕ) : Type 0 where
  -- each block of a cell is the only one of its number there
  pub own : (ino : ℕ) → HasOwnBytes (shared_of shared) ino
  -- each file page of the snapshot below its size has its block
  pub pages : (ino : ℕ) → let cell = cell_at (shared_of shared) ino in NoneOut cell (up_to snapshot (log_of cell))

-- what a drain is given before it releases a record
pub record CanRelease (shared : Shared) (picked : Record) : Type 0 where
  -- the record's slot has a cell
  pub slot : picked.ino < length shared.cells.items
  -- the record's part is marked kept there
  pub kept : mark_named (cell_at (shared_of shared) picked.ino) (name_of picked) ≡ Some Kept
  -- the cell has blocks of the device's size, and no entry past the tail
  pub still : IsStill shared.geometry.numbers.block (cell_at (shared_of shared) picked.ino)
  -- where its inode is gone, the slot is not of the last generation
  pub generation : is_gone (log_of (cell_at (shared_of shared) picked.ino)) ≡ true
      → (cell_at (shared_of shared) picked.ino).generation < NUMBER

-- what a step of a call on snapshots or of a cleaner is given
abbrev pub GivenOn : SnapshotOrCleanerStep → Shared → Type 0
GivenOn (on.Pin snapshot) shared = ForSome (pins_of shared.book.state.snaps snapshot) (λ pins. pins < PINS)
GivenOn (on.Show snapshot showing) shared = CanShow shared snapshot
GivenOn (on.Unpin snapshot seen) shared = IsSomeAnd (pins_of shared.book.state.snaps snapshot) (λ pins. 0 < pins)
GivenOn (on.LockPicked draining picked) shared = picked.ino < length shared.owners.items
GivenOn (on.Release draining picked) shared = CanRelease shared picked
GivenOn (on.LockCleaned log) shared = log.ino < length shared.owners.items
GivenOn (on.PlanCleaning manner slot) shared = ForSome slot (λ ino. ino < length shared.cells.items)
GivenOn (on.Unlink plan) shared = CanClean shared plan.ino
GivenOn (on.Compact plan) shared = CanClean shared plan.ino
GivenOn other shared = Unit {0}

-- what the next step of a call is given that has its hand alone
abbrev pub Given : Next → Shared → Hand → Running → Type 0
Given next.Number shared hand running = hand.ino ≡ None
Given (next.Look place) shared hand running = hand_of hand ≡ empty_hand
Given (next.Lock place) shared hand running = place < length (slots_in running.slots)
Given next.Check shared hand running = CanBeChecked shared hand running
Given next.Ready shared hand running = CanGetReady shared running
Given (next.Unlock place) shared hand running = place < length (slots_in running.slots)
Given (next.Give cpu) shared hand running = CanGive shared hand cpu
Given next.ReturnNumber shared hand running = CanPutBack shared hand
Given next.Visit shared hand running =
    (slots_in running.slots ≡ []) × ((ino : ℕ) → HasOwnBytes (shared_of shared) ino) × (hand_of hand ≡ empty_hand)
Given (next.SnapshotOrCleaner step) shared hand running =
    (slots_in running.slots ≡ slots_on (step_on step)) × HandOn (step_on step) (hand_of hand) × GivenOn step shared
Given other shared hand running = Unit {0}

-- what a step of a call is given by those before it
abbrev pub GivenBy : Shared → Reservation → Running → ℕ → Type 0
GivenBy shared (reserved.Hand hand) running actor = Given running.next shared hand running
GivenBy shared (reserved.Ready ready) running actor = shared.holder ≡ None → shared.book.state.commit < NUMBER
    → CanEnter shared running ready actor
GivenBy shared (reserved.Commit commit) running actor = shared.holder ≡ Some actor

-- WHAT EVERY STEP OF AN ACTOR'S CALL IS GIVEN by the laws of the machine
pub record CanStep (shared : Shared) (reserved : Reservation) (running : Running) (actor : ℕ) : Type 0 where
  -- the device's numbers are within their limits
  pub limits : IsWithinLimits shared.geometry.numbers
  -- the actor is one of the device
  pub actors : actor < shared.geometry.numbers.actors
  -- each list is of its CPU's home range
  pub home : AreHome shared
  -- all blocks in the hand are of the device
  pub device : IsOfDevice shared.geometry.numbers (hand_held reserved)
  -- each slot of the call has a cell
  pub slots : AreSlots shared (slots_in running.slots)
  -- each cell has its lock
  pub wide : length shared.owners.items ≡ length shared.cells.items
  -- what the step that comes next asks for holds
  pub own : GivenBy shared reserved running actor

-- the next step passes the hand on: the call is made ready, it enters, or its commit leaves
abbrev pub IsHandover : Reservation → Running → Type 0
IsHandover (reserved.Hand hand) running = running.next ≡ next.Ready
IsHandover (reserved.Ready ready) running = Unit {0}
IsHandover (reserved.Commit commit) running = step_of commit ≡ Leave
