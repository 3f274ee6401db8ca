-- What the steps of a cleaner have done since it was started, and so what it is answered or refused for.
use Rattle.std.specs.Prelude.{◌≡◌, ℕ, ◌+◌, ◌-◌, ◌==◌, ◌&&◌, ◌++◌, Bool, true, false, if◌then◌else◌, nat_lt, List, [], ◌∷◌, length}
use Rattle.nv_base.specs.declared.fault.Fault.{Fault}
use Rattle.nv_base.specs.declared.fault.Fault.TheVariants.{NoSpace, Stale}
use Rattle.nv_base.specs.Memory.{out_of_memory}
use Rattle.nv_calls.specs.declared.answer.Answer.{Answer}
use Rattle.nv_calls.specs.declared.answer.Answer.TheVariants as answers
use Rattle.nv_calls.specs.declared.call.Call.{Call}
use Rattle.nv_calls.specs.declared.call.Call.TheVariants as call
use Rattle.nv_calls.specs.declared.snapshot_or_cleaner_call.SnapshotOrCleanerCall.TheVariants as on
use Rattle.nv_cell.specs.Cell.{CellState}
use Rattle.nv_clean.specs.Plans.{wanted_of}
use Rattle.nv_machine.specs.OwnSteps.{OwnStep, turn_of}
use Rattle.nv_cell.specs.Readers.{has_inode}
use Rattle.nv_machine.specs.World.{Auto, Compact, Ends, Fast, Fresh, PlanCleaning, SnapshotOrCleaner, Manner, Moves, Next, Shared, Thorough, Turn, Unlink, Waits, cell_at}

-- the call that cleans the log of an inode in this manner
abbrev pub cleaner : Manner → ℕ → Call
cleaner Fast ino = call.SnapshotOrCleaner (on.Fast ino)
cleaner Thorough ino = call.SnapshotOrCleaner (on.Thorough ino)
cleaner Auto ino = call.SnapshotOrCleaner (on.Auto ino)

-- ---- its work

-- what a cleaner has done since it was started, by its own steps
pub record CleanerWork : Type 0 where
  -- how many steps it made, without those that waited
  pub made : ℕ
  -- its `plan cleaning` steps, the last one first
  pub plannings : List OwnStep
  -- how many lists its `fresh` steps have asked
  pub asked : ℕ
  -- of each `unlink` or `compact` step whether it went entry by entry, the last one first
  pub cleans : List Bool
  -- how many entries the log of its slot has lost
  pub entries : ℕ
  -- how many log pages that log has lost
  pub pages : ℕ

-- a cleaner that has done nothing yet
abbrev pub no_work : CleanerWork
no_work = record { made = 0; plannings = []; asked = 0; cleans = []; entries = 0; pages = 0 }

-- the planning of a step, if it is one
abbrev pub plannings_at : Next → OwnStep → List OwnStep
plannings_at (SnapshotOrCleaner (PlanCleaning manner slot)) x = x ∷ []
plannings_at other x = []

-- 1 for a step that asks a list for log pages, else 0
abbrev pub asks_at : Next → ℕ
asks_at (SnapshotOrCleaner (Fresh ino asked wanted)) = 1
asks_at other = 0

-- for a clean step whether it goes entry by entry
abbrev pub cleans_at : Next → List Bool
cleans_at (SnapshotOrCleaner (Unlink ino)) = false ∷ []
cleans_at (SnapshotOrCleaner (Compact ino)) = true ∷ []
cleans_at other = []

-- how many entries a log lost
abbrev pub entries_lost : CellState → CellState → ℕ
entries_lost old new = length old.chain.entries - length new.chain.entries

-- how many log pages a log lost
abbrev pub pages_lost : CellState → CellState → ℕ
pages_lost old new = length old.chain.blocks - length new.chain.blocks

-- the work with one step more, of this kind, after which this is shared
abbrev pub with_made : Next → ℕ → OwnStep → Shared → CleanerWork → CleanerWork
with_made k ino x t work = record {
  made = work.made + 1;
  plannings = plannings_at k x ++ work.plannings;
  asked = work.asked + asks_at k;
  cleans = cleans_at k ++ work.cleans;
  entries = work.entries + entries_lost (cell_at x.world.shared ino) (cell_at t ino);
  pages = work.pages + pages_lost (cell_at x.world.shared ino) (cell_at t ino);
}

-- the work with one turn more: one that waited adds nothing
abbrev pub with_turn : ℕ → OwnStep → Turn → CleanerWork → CleanerWork
with_turn ino x (Moves t h r) work = with_made x.running.next ino x t work
with_turn ino x Waits work = work
with_turn ino x (Ends result t h) work = with_made x.running.next ino x t work

-- THE WORK OF A CLEANER, by its own steps, the last one first, on the log of a slot
abbrev pub work_done : ℕ → List OwnStep → CleanerWork
work_done ino [] = no_work
work_done ino (x ∷ steps) = with_turn ino x (turn_of x) (work_done ino steps)

-- ---- what its planning finds

-- the cell that a planning walked
abbrev pub walked_cell : ℕ → OwnStep → CellState
walked_cell ino planning = cell_at planning.world.shared ino

-- at this planning the log has an entry, and the memory of the walk is granted
abbrev pub is_passed : ℕ → OwnStep → Bool
is_passed ino planning = has_inode (walked_cell ino planning) && planning.granted

-- a cleaner goes entry by entry, and not by whole log pages: `auto` does where less than half of
-- the entries stay
abbrev pub by_entries : Manner → CellState → Bool
by_entries Fast cell = false
by_entries Thorough cell = true
by_entries Auto cell = nat_lt ((wanted_of cell).entries + (wanted_of cell).entries) (length cell.chain.entries)

-- the cleaner goes entry by entry, and none may go
abbrev pub goes_none : Manner → CellState → Bool
goes_none manner cell = by_entries manner cell && ((wanted_of cell).dropped == 0)

-- ---- what it is told

-- THE ANSWER of a cleaner that has done this work. Example: a log of six entries has four log
-- pages with room for two entries each, and four entries may go. `thorough`, where the own list
-- has a free block, makes five steps before `give`: `lock cleaned`, `plan cleaning`, `fresh`,
-- `compact`, `unlock`. The log has lost four entries and three log pages, and the answer tells
-- these.
pub record IsCleanedBy (manner : Manner) (ino : ℕ) (work : CleanerWork) (told : Answer) : Type 0 where
  -- the step at which it planned
  pub planning : OwnStep
  -- it planned once, at that step
  pub planned : work.plannings ≡ planning ∷ []
  -- the log had an entry then, and the memory of the walk was granted
  pub passed : is_passed ino planning ≡ true
  -- it made one clean step, of its manner; none where it found no entry that may go
  pub cleans : work.cleans
      ≡ (if goes_none manner (walked_cell ino planning) then [] else by_entries manner (walked_cell ino planning) ∷ [])
  -- the answer tells the manner, and how many entries and log pages the log has lost
  pub is : told ≡ answers.Cleaned (by_entries manner (walked_cell ino planning)) work.entries work.pages
  -- where it found no entry that may go, the log has lost nothing
  pub nothing : goes_none manner (walked_cell ino planning) ≡ true → (work.entries ≡ 0) × (work.pages ≡ 0)

-- the first fault that applies: no entry in the log, then no memory for the walk, and last too few
-- blocks
abbrev pub fault_by : Bool → Bool → Fault
fault_by false granted = Stale
fault_by true false = out_of_memory
fault_by true true = NoSpace

-- THE REFUSAL of a cleaner that has done this work, where there are so many lists
pub record IsRefusedInOrder (ino lists : ℕ) (work : CleanerWork) (fault : Fault) : Type 0 where
  -- the step at which it planned
  pub planning : OwnStep
  -- it planned once, at that step
  pub planned : work.plannings ≡ planning ∷ []
  -- the fault is the first that applied there
  pub is : fault ≡ fault_by (has_inode (walked_cell ino planning)) planning.granted
  -- each list was asked where the log had an entry and memory was granted, and else none
  pub asked : work.asked ≡ (if is_passed ino planning then lists else 0)
  -- it made no clean step
  pub cleans : work.cleans ≡ []
  -- the log has lost nothing
  pub lost : (work.entries ≡ 0) × (work.pages ≡ 0)
