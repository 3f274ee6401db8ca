-- What a cleaning leaves of a cell and a hand, and what it answers. A page is a log page.
use Rattle.std.specs.Prelude.{◌≡◌, ℕ, ◌+◌, ◌-◌, ◌==◌, ◌++◌, Bool, if◌then◌else◌, true, List, [], Some, length, slice_get}
use Rattle.nv_alloc.specs.Block.{BlockValue}
use Rattle.nv_alloc.specs.declared.hand.Hand.{Hand}
use Rattle.nv_cell.specs.Cell.{CellRoom, CellState, log_of}
use Rattle.nv_cell.specs.Marks.{is_there, mark_at}
use Rattle.nv_cell.specs.Removal.{left_in, log_flags}
use Rattle.nv_cell.specs.Retained.{AreMarksOf}
use Rattle.nv_clean.specs.Plans.{UnlinkableValue, WantedValue}
use Rattle.nv_clean.specs.declared.cleaned.Cleaned.{Cleaned}
use Rattle.nv_entry.specs.Held.{Retention, holds}
use Rattle.nv_entry.specs.Laws.{KeepsReads, NoneDroppable}
use Rattle.nv_entry.specs.Log.{pairs}
use Rattle.nv_entry.specs.Node.{node_at, node_now}
use Rattle.nv_entry.specs.declared.held.Pair.{Pair}
use Rattle.nv_log.specs.Chain.{compacted, gone_of, with_pages_left}

-- the cell after a thorough cleaning: the entries that stay, on fresh pages, unless all stay
abbrev pub with_entries : WantedValue → List BlockValue → CellState → CellState
with_entries wanted pages cell =
    if wanted.dropped == 0 then cell else left_in wanted.stays (compacted wanted.stays pages cell.chain) cell

-- the cell's room after a thorough cleaning: none for pages, where entries moved
abbrev pub room_with_entries : WantedValue → CellRoom → CellRoom
room_with_entries wanted room = if wanted.dropped == 0 then room else record room { pages = 0 }

-- the cell after a fast cleaning: the pages that stay
abbrev pub with_pages_unlinked : UnlinkableValue → CellState → CellState
with_pages_unlinked unlinkable cell =
    left_in (log_flags unlinkable.stays cell.chain) (with_pages_left unlinkable.stays cell.chain) cell

-- the cell's room after a fast cleaning: for one page more for each that went
abbrev pub room_with_pages : UnlinkableValue → CellState → CellRoom → CellRoom
room_with_pages unlinkable cell room =
    record room { pages = room.pages + length (gone_of unlinkable.stays cell.chain.blocks) }

-- what a cleaning answers of a cell whose log had so many entries
-- and pages before: how many of each it lost
abbrev pub saved : Bool → ℕ → ℕ → CellState → Cleaned
saved thorough entries pages cell =
    record { thorough = thorough; entries = entries - length cell.chain.entries; pages = pages - length cell.chain.blocks }

-- what a cleaning answers: the entries and the pages that the log of the cell lost
abbrev pub answer_of : Bool → CellState → CellState → Cleaned
answer_of thorough old new = saved thorough (length old.chain.entries) (length old.chain.blocks) new

-- the hand after a thorough cleaning. Its pages are in the log,
-- and it holds the log's old ones as a chain.
abbrev pub with_chain : WantedValue → CellState → Hand → Hand
with_chain wanted cell hand =
    if wanted.dropped == 0 then hand
    else record hand { pages = record hand.pages { blocks = []; room = 0 }; chain = cell.chain.blocks }

-- the hand after a fast cleaning: it holds the pages that went, behind its others
abbrev pub with_gone : UnlinkableValue → CellState → Hand → Hand
with_gone unlinkable cell hand =
    let gone = gone_of unlinkable.stays cell.chain.blocks in
    record hand { pages = record hand.pages { blocks = hand.pages.blocks ++ gone; room = hand.pages.room - length gone } }

-- a hand has what a thorough cleaning asks for
pub record HasPages (wanted : WantedValue) (hand : Hand) : Type 0 where
  -- it has as many log pages as the entries that stay fill
  pub pages : length hand.pages.blocks ≡ wanted.pages
  -- it has no chain
  pub chain : length hand.chain ≡ 0

-- each pair of the log that lives at the epoch has a part that is not out
abbrev pub SpansAreThere : ℕ → CellState → Type 0
SpansAreThere epoch cell =
    (n : ℕ) (pair : Pair)
    → slice_get (pairs cell.block (log_of cell)) n ≡ Some pair → holds epoch pair ≡ true → is_there (mark_at cell.marks n) ≡ true

-- the node of a cell stays, whatever the blocks have
pub record NodesStay (old new : CellState) : Type 0 where
  -- the node of now is the same
  pub now : (bytes : ℕ → List ℕ) → node_now bytes new.block (log_of new) ≡ node_now bytes old.block (log_of old)
  -- the node is the same at each epoch where the part of every pair that lives at it is not out
  pub at : (epoch : ℕ) → SpansAreThere epoch old → (bytes : ℕ → List ℕ)
      → node_at bytes new.block epoch (log_of new) ≡ node_at bytes old.block epoch (log_of old)

-- what is read of a cleaned log stays, for each retention that the marks of its parts are of
abbrev pub KeepsValues : CellState → CellState → Type 0
KeepsValues old new = (r : Retention) → AreMarksOf r old → KeepsReads r (log_of old) (log_of new)

-- no entry of the log is left droppable, for each retention that the marks of its parts were of
abbrev pub LeavesNone : CellState → CellState → Type 0
LeavesNone old new = (r : Retention) → AreMarksOf r old → NoneDroppable r [] (log_of new)
