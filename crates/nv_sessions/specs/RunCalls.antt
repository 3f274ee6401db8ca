-- Calls of a session as runs of the machine's turns.
use Rattle.std.specs.Prelude.{ℕ, [], ◌∷◌, Some, Result, Ok, Err, ◌≡◌, true}
use Rattle.nv_base.specs.declared.fault.Fault.{Fault}
use Rattle.nv_base.specs.declared.geometry.GeometryNumbers.{GeometryNumbers}
use Rattle.nv_base.specs.declared.numbers.Handle.{Handle}
use Rattle.nv_calls.specs.AllCalls.{answer}
use Rattle.nv_calls.specs.Nodes.{alone, plain_nodes}
use Rattle.nv_calls.specs.declared.answer.Answer.{Answer}
use Rattle.nv_calls.specs.declared.call.Call.{Call}
use Rattle.nv_calls.specs.declared.call.Call.TheVariants as call
use Rattle.nv_calls.specs.declared.snapshot_or_cleaner_call.SnapshotOrCleanerCall.{SnapshotOrCleanerCall}
use Rattle.nv_calls.specs.declared.snapshot_or_cleaner_call.SnapshotOrCleanerCall.TheVariants as on
use Rattle.nv_machine.specs.Sequence.{first_step, slots_on, started, new_draining}
use Rattle.nv_machine.specs.World.{Drop, Make, PlanCleaning, Running, SnapshotOrCleaner, Pick, Visit, empty_hand}
use Rattle.nv_sessions.specs.Ending.{cleaner_of}
use Rattle.nv_cell.specs.Cell.{CellValue}
use Rattle.nv_cell.specs.Pages.{AreBytesOf}
use Rattle.nv_machine.specs.Reads.{bytes_among}
use Rattle.nv_steps.specs.Parts.{IsThere}
use Rattle.nv_steps.specs.Reading.{reading, unlocked}
use Rattle.nv_steps.specs.Turns.{IsEnd}
use Rattle.nv_sessions.specs.SessionRuns.{IsSessionRun}
use Rattle.nv_sessions.specs.Sessions.{answer_of}
use Rattle.nv_sessions.specs.declared.seen.Seen.{Seen}
use Rattle.nv_steps.specs.Planning.{manner_of}
use Rattle.nv_steps.specs.declared.planning.Manner.{Manner}

-- a call that makes a snapshot, and one that drops this one, as they start
abbrev pub making : Running
making = started (call.SnapshotOrCleaner on.Snap) (SnapshotOrCleaner Make) []

abbrev pub dropping : ℕ → Running
dropping snapshot = started (call.SnapshotOrCleaner (on.Drop snapshot)) (SnapshotOrCleaner (Drop snapshot)) []

-- a cleaner, as it starts on a device of these numbers
abbrev pub cleaning : GeometryNumbers → SnapshotOrCleanerCall → Running
cleaning numbers cleaner =
    started (call.SnapshotOrCleaner cleaner) (SnapshotOrCleaner (first_step numbers.inodes cleaner)) (slots_on (first_step numbers.inodes cleaner))

-- a cleaner of that manner that has locked its slot: it plans next
abbrev pub planning : Manner → ℕ → Running
planning manner ino =
    started (call.SnapshotOrCleaner (cleaner_of manner ino)) (SnapshotOrCleaner (PlanCleaning (manner_of manner) (Some ino))) (ino ∷ [])

-- a call that drains so many, as it starts: a number outside 1 to 1,048,576 counts as the nearest of these
abbrev pub draining : ℕ → Running
draining number = started (call.SnapshotOrCleaner (on.Drain number)) (SnapshotOrCleaner (Pick (new_draining number))) []

-- a call that only reads, as it starts
abbrev pub viewing : Call → Running
viewing c = started c Visit []

-- what a session's call is told, in the machine's words
abbrev pub told_as : Result Seen Fault → Result Answer Fault
told_as (Ok seen) = Ok (answer_of seen)
told_as (Err fault) = Err fault

-- ---- a read

-- A READ TOLD THE BYTES OF A CELL'S OWN BLOCKS, of a cell that it found at its slot. This is the machine's turn where no two
-- blocks of that cell have one number: laws over all parts of a world give that, and nothing behind one lock does.
pub record IsOwnRead (numbers : GeometryNumbers) (actor ino : ℕ) (c : Call) (found : Answer) : Type 0 where
  -- the cell
  pub cell : CellValue
  -- some state has it at that slot, whose lock nobody has
  pub there : IsThere numbers (unlocked ino (Some cell.state))
  -- the answer is that of the cell's node, by the cell's own blocks
  pub own : (made : Handle) → found ≡ answer (plain_nodes (alone ino cell)) made c
  -- it is the machine's answer, in one turn, where each block is the only one of its number there
  pub turn : AreBytesOf cell.state (bytes_among cell.state.blocks)
      → IsEnd numbers actor (reading ino (viewing c) empty_hand true (Some cell.state)) (Ok found) empty_hand

-- a read is a run where it is refused; else it told the bytes of a cell's own blocks
abbrev pub IsReadRun : GeometryNumbers → ℕ → ℕ → Call → Result Answer Fault → Type 0
IsReadRun numbers actor ino c (Ok found) = IsOwnRead numbers actor ino c found
IsReadRun numbers actor ino c (Err fault) = IsSessionRun numbers actor empty_hand (viewing c) (Err fault) empty_hand
