-- WHAT DOES NOT FIT A STEP of what it takes from behind a lock. Laws over all parts of a world give each step what it needs of
-- a part, and no lock does: a session tests it.
use Rattle.std.specs.Prelude.{◌≡◌, ℕ, ◌<◌, ◌≤◌, Some, length, true}
use Rattle.std.specs.Option.{ForSome}
use Rattle.nv_alloc.specs.FreeList.{FreeBlocks, IsHomeList}
use Rattle.nv_alloc.specs.declared.hand.Hand.{Hand}
use Rattle.nv_base.specs.declared.fault.MismatchPart.{MismatchPart}
use Rattle.nv_base.specs.declared.fault.MismatchPart.TheVariants as part
use Rattle.nv_base.specs.declared.geometry.GeometryNumbers.{GeometryNumbers}
use Rattle.nv_base.specs.declared.limits.TheConstants.{PINS}
use Rattle.nv_book.specs.Book.{BookState}
use Rattle.nv_book.specs.declared.record.Record.{Record}
use Rattle.nv_calls.specs.Locked.{handles}
use Rattle.nv_calls.specs.Looks.{handle_at, nothing_looked}
use Rattle.nv_calls.specs.declared.call.Call.{Call}
use Rattle.nv_cell.specs.Cell.{CellState}
use Rattle.nv_cell.specs.Readers.{has_killed}
use Rattle.nv_epoch.specs.SnapList.{pins_of}
use Rattle.nv_machine.specs.Kinds.{asked_list}
use Rattle.nv_machine.specs.World.{Draining, Fresh, Manner, Next, Pick, Pin, PlanCleaning, Running, SnapshotOrCleaner, Visit}
use Rattle.nv_sessions.specs.Cleaning.{CanRelease}
use Rattle.nv_sessions.specs.Locked.{IsThere, LockedValue}
use Rattle.nv_steps.specs.OnBook.{room_for}

-- ---- parts

-- the place behind the lock of a slot is another's, or its cell is out
abbrev pub IsMisplaced : ℕ → LockedValue → Type 0
IsMisplaced ino place = ¬ ((place.ino ≡ ino) × IsThere place)

-- a cell can't be cleaned with this hand, for what the fault names: one of them is for blocks of another size than the device's,
-- the cell has an entry past its tail, or a part of it is killed and not yet retired
abbrev pub IsUncleanable : ℕ → CellState → Hand → MismatchPart → Type 0
IsUncleanable block cell hand part.Lists = ¬ ((cell.block ≡ block) × (hand.pages.size ≡ block))
IsUncleanable block cell hand part.Index = ¬ (cell.chain.tail ≡ length cell.chain.entries)
IsUncleanable block cell hand part.Records = has_killed cell ≡ true
IsUncleanable block cell hand other = ⊥

-- a drain with this hand, which has released so many, can't release a record from a cell
abbrev pub IsUnreleasable : ℕ → Record → CellState → Hand → Type 0
IsUnreleasable released first cell hand = ¬ (CanRelease cell first hand × (0 < room_for released hand.«data».room))

-- ---- steps

-- the slot whose cell a step takes: that of a read's node or of a planning, and for a pick that of any record
abbrev pub TakesSlot : Call → Next → ℕ → Type 0
TakesSlot c Visit ino = ino ≡ (handle_at (handles nothing_looked c) 0).ino
TakesSlot c (SnapshotOrCleaner (PlanCleaning manner (Some slot))) ino = ino ≡ slot
TakesSlot c (SnapshotOrCleaner (Pick draining)) ino = Unit {0}
TakesSlot c other ino = ⊥

-- THE NEXT STEP OF A CALL TAKES WHAT DOES NOT FIT IT, and the fault names what that is
pub data TakesMisfit (numbers : GeometryNumbers) (actor : ℕ) (hand : Hand) (r : Running) (what : MismatchPart) : Type 0 where
  -- the place of another inode, or an empty one
  Misplaced : (ino : ℕ) (place : LockedValue) → TakesSlot r.call r.next ino → IsMisplaced ino place → what ≡ part.Lists
      → TakesMisfit numbers actor hand r what
  -- a cell that can't be cleaned
  Uncleanable : (manner : Manner) (ino : ℕ) (cell : CellState) → r.next ≡ SnapshotOrCleaner (PlanCleaning manner (Some ino))
      → IsUncleanable numbers.block cell hand what → TakesMisfit numbers actor hand r what
  -- a list that is at home on another CPU than the one whose list is asked
  Mislaid : (ino asked wanted : ℕ) (list : FreeBlocks) → r.next ≡ SnapshotOrCleaner (Fresh ino asked wanted)
      → ¬ IsHomeList numbers (asked_list numbers.cpus actor asked) list → what ≡ part.Lists → TakesMisfit numbers actor hand r what
  -- a record of no slot of the device
  Slotless : (draining : Draining) (first : Record) → r.next ≡ SnapshotOrCleaner (Pick draining) → numbers.inodes ≤ first.ino
      → what ≡ part.Records → TakesMisfit numbers actor hand r what
  -- a record that can't be released from a cell
  Unreleasable : (draining : Draining) (first : Record) (cell : CellState) → r.next ≡ SnapshotOrCleaner (Pick draining)
      → IsUnreleasable draining.released first cell hand → what ≡ part.Records → TakesMisfit numbers actor hand r what
  -- a snapshot that takes no more pins
  Unpinnable : (snapshot : ℕ) (book : BookState) → r.next ≡ SnapshotOrCleaner (Pin snapshot)
      → ¬ ForSome (pins_of book.snaps snapshot) (λ pins. pins < PINS) → what ≡ part.Records → TakesMisfit numbers actor hand r what
