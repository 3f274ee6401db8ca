-- Turns that read the cell of one slot while nobody has its lock.
use Rattle.std.specs.Prelude.{ℕ, ◌≤◌, Bool, List, [], ◌∷◌, Option, Some, None, Result, Ok, Err}
use Rattle.nv_base.specs.declared.fault.Fault.{Fault}
use Rattle.nv_base.specs.declared.geometry.GeometryNumbers.{GeometryNumbers}
use Rattle.nv_calls.specs.SlotList.{slots_in}
use Rattle.nv_calls.specs.declared.answer.Answer.{Answer}
use Rattle.nv_calls.specs.declared.looked.LookupResult.{LookupResult}
use Rattle.nv_calls.specs.declared.slots.LockedSlots.{LockedSlots}
use Rattle.nv_calls.specs.declared.view.View.{View}
use Rattle.nv_cell.specs.Cell.{CellState}
use Rattle.nv_machine.specs.Sequence.{sequel}
use Rattle.nv_machine.specs.World.{HandState, Look, Refuses, Running, SnapshotOrCleaner, Unpin, go_to}
use Rattle.nv_reader.specs.Showing.{Showing}
use Rattle.nv_steps.specs.OnBook.{once_pinned}
use Rattle.nv_steps.specs.Parts.{CellIs, OwnerIs, Part}
use Rattle.nv_steps.specs.Turns.{IsEnd, IsMove, Made}

-- ---- what is read

-- the cell of a slot, whose lock nobody has; a number out of range has no slot
abbrev pub unlocked : ℕ → Option CellState → List Part
unlocked ino None = []
unlocked ino (Some cell) = CellIs ino cell ∷ OwnerIs ino None ∷ []

-- a number that has no cell is out of range
abbrev pub IsInRangeIf : GeometryNumbers → ℕ → Option CellState → Type 0
IsInRangeIf numbers ino None = numbers.inodes ≤ ino
IsInRangeIf numbers ino (Some cell) = Unit {0}

-- a turn that read the cell of a slot, if there is one, and changed nothing
abbrev pub reading : ℕ → Running → HandState → Bool → Option CellState → Made
reading ino r h granted cell = record { running = r; hand = h; granted = granted; found = unlocked ino cell; left = [] }

-- ---- calls

-- a show behind a visit: the next visit, or the unpin; where memory was refused, the unpin
abbrev pub once_shown : ℕ → Result Showing Fault → Running → Running
once_shown snapshot (Ok showing) r = once_pinned snapshot r showing
once_shown snapshot (Err fault) r = record r { ending = Refuses fault; next = SnapshotOrCleaner (Unpin snapshot []) }

-- a call behind a look at this place, which found this, and so locks these slots
abbrev pub once_looked : ℕ → LookupResult → List ℕ → Running → Running
once_looked place looked slots r = let noted = record r { looked = looked; slots = slots } in go_to (sequel noted (Look place)) noted

-- what a call is answered that found this
abbrev pub answer_of_view : Result View Fault → Result Answer Fault
answer_of_view (Ok view) = Ok view.found
answer_of_view (Err fault) = Err fault

-- a look is the machine's turn: it goes on by what it found, or its call is refused at once
abbrev pub IsLookTurn : GeometryNumbers → ℕ → Made → ℕ → Result (LookupResult × LockedSlots) Fault → Type 0
IsLookTurn numbers actor t place (Ok found) = IsMove numbers actor t t.hand (once_looked place found.0 (slots_in found.1) t.running)
IsLookTurn numbers actor t place (Err fault) = IsEnd numbers actor t (Err fault) t.hand
