-- How far a cleaner has come, which holds the lock of one slot alone.
use Rattle.std.specs.Prelude.{◌≡◌, ◌≢◌, ◌<◌, ◌≤◌, ℕ, ◌+◌, List, [], ◌∷◌, length, Result, Ok, Err}
use Rattle.nv_alloc.specs.Queue.{QueueValue}
use Rattle.nv_base.specs.declared.fault.Fault.{Fault}
use Rattle.nv_base.specs.declared.fault.Fault.TheVariants.{Mismatch, NoSpace}
use Rattle.nv_base.specs.declared.geometry.GeometryNumbers.{GeometryNumbers}
use Rattle.nv_cell.specs.Cell.{CellState}
use Rattle.nv_clean.specs.declared.cleaned.Cleaned.{Cleaned}
use Rattle.nv_machine.specs.World.{Cleans, Compact, Fresh, HandState, Refuses, Running, SnapshotOrCleaner, go_to}
use Rattle.nv_sessions.specs.SessionRuns.{IsBrokenOff}
use Rattle.nv_sessions.specs.Underway.{UnlocksNext}
use Rattle.nv_steps.specs.OnCell.{once_ending}
use Rattle.nv_steps.specs.OnList.{once_refused}
use Rattle.nv_steps.specs.Runs.{Known, Leads, Unheld, known_book, known_cell}
use Rattle.nv_steps.specs.Turns.{Made}
use Rattle.nv_steps.specs.declared.lists.Taken.{Taken}
use Rattle.nv_steps.specs.declared.lists.Taken.TheVariants as taken

-- A CALL HOLDS ONE SLOT alone, and knows this of its cell
pub record Holds (numbers : GeometryNumbers) (actor : ℕ) (h0 : HandState) (r0 : Running) (ino : ℕ) (known : Known CellState)
    (h : HandState) (r : Running) : Type 0 where
  -- its turns, of which the last is first
  pub turns : List Made
  -- they lead from its start to this
  pub leads : Leads numbers actor h0 r0 turns h r
  -- the slot that it holds
  pub slots : r.slots ≡ ino ∷ []
  -- there is such a slot
  pub inside : ino < numbers.inodes
  -- its turns know this of the slot's cell
  pub knows : known_cell actor turns ino ≡ known
  -- they hold no other cell
  pub others : (other : ℕ) → ino ≢ other → known_cell actor turns other ≡ Unheld
  -- nor the book
  pub book : known_book actor turns ≡ Unheld

-- a cleaner that wants so many log pages yet, and has asked so many lists
abbrev pub wanting : ℕ → ℕ → ℕ → Running → Running
wanting ino asked wanted r = go_to (SnapshotOrCleaner (Fresh ino asked wanted)) r

-- a cleaner that has all log pages that it wants
abbrev pub once_fresh : ℕ → Running → Running
once_fresh ino r = go_to (SnapshotOrCleaner (Compact ino)) r

-- a cleaner behind the asking of one list: it has all; it asks the next one; or it is refused, since each was asked
abbrev pub once_asked : ℕ → ℕ → Taken → Running → Running
once_asked ino asked taken.All r = once_fresh ino r
once_asked ino asked (taken.Lacks left) r = wanting ino (asked + 1) left r
once_asked ino asked taken.TooFew r = once_refused NoSpace r

-- what is told of an asking of one list for so many log pages, where so many of so many lists were asked before: the hand has
-- all; or it has all but so many, it has room for these, and there is another list; or each was asked
abbrev pub IsToldFresh : ℕ → ℕ → ℕ → QueueValue → QueueValue → Taken → Type 0
IsToldFresh wanted asked lists old new taken.All = length new.blocks ≡ length old.blocks + wanted
IsToldFresh wanted asked lists old new (taken.Lacks left) =
    (length new.blocks + left ≡ length old.blocks + wanted) × (left ≤ new.room) × (asked + 1 < lists)
IsToldFresh wanted asked lists old new taken.TooFew = lists ≤ asked + 1

-- A CLEANER UNLOCKS NEXT, to end by what it has cleaned or by its refusal; or a test breaks it off
abbrev pub IsCleaned : GeometryNumbers → ℕ → HandState → Running → Result Cleaned Fault → HandState → Type 0
IsCleaned numbers actor h0 r0 (Ok cleaned) h =
    (r : Running) × UnlocksNext numbers actor h0 r0 h (once_ending (Cleans cleaned) r)
IsCleaned numbers actor h0 r0 (Err (Mismatch what)) h = IsBrokenOff numbers actor h0 r0 what
IsCleaned numbers actor h0 r0 (Err fault) h =
    (r : Running) × UnlocksNext numbers actor h0 r0 h (once_ending (Refuses fault) r)
