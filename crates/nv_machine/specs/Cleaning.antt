-- The steps of a cleaner, one function a kind. What decides a step is an argument.
use Rattle.std.specs.Prelude.{ℕ, zero, suc, ◌+◌, ◌-◌, ◌*◌, ◌++◌, Bool, true, false, nat_lt, [], length, take, Option, Some, None}
use Rattle.nv_base.specs.declared.fault.Fault.TheVariants.{NoSpace, Stale}
use Rattle.nv_cell.specs.Cell.{CellState}
use Rattle.nv_cell.specs.Removal.{left_in}
use Rattle.nv_clean.specs.Cleaned.{answer_of, with_pages_unlinked}
use Rattle.nv_clean.specs.Plans.{unlinkable_of, wanted_of}
use Rattle.nv_clean.specs.declared.cleaned.Cleaned.{Cleaned}
use Rattle.nv_log.specs.Chain.{compacted, gone_of}
use Rattle.nv_machine.specs.Kinds.{end_turn, grown, less_list, refuse}
use Rattle.nv_cell.specs.Readers.{has_inode}
use Rattle.nv_machine.specs.World.{Auto, Cleans, Compact, Fast, Fresh, HandState, PlanCleaning, SnapshotOrCleaner, Manner, Moves, Running, Shared, Thorough, Turn, Unlink, Waits, cell_at, go_to, list_at, with_cell, with_owner}

-- ---- lock

-- a cleaner locks its slot, or waits
abbrev pub lock_cleaned_turn : Option ℕ → ℕ → Manner → ℕ → Shared → HandState → Running → Turn
lock_cleaned_turn (Some other) actor manner ino s h r = Waits
lock_cleaned_turn None actor manner ino s h r =
    Moves (with_owner ino (Some actor) s) h (go_to (SnapshotOrCleaner (PlanCleaning manner (Some ino))) r)

-- ---- plan cleaning: what the walk of the log finds

-- a cleaning goes entry by entry: `auto` does where less than half of the entries stay
abbrev pub is_thorough : Manner → CellState → Bool
is_thorough Fast cell = false
is_thorough Thorough cell = true
is_thorough Auto cell = nat_lt (2 * (wanted_of cell).entries) (length cell.chain.entries)

-- what a thorough cleaner is answered where no entry goes
abbrev pub nothing_cleaned : Cleaned
nothing_cleaned = record { thorough = true; entries = 0; pages = 0 }

-- so many entries go, and the others fill so many log pages, which are taken first; where none
-- goes the call is answered so
abbrev pub thorough_turn : ℕ → ℕ → ℕ → Shared → HandState → Running → Turn
thorough_turn zero pages ino s h r = end_turn r.slots (Cleans nothing_cleaned) s h r
thorough_turn (suc n) pages ino s h r = Moves s h (go_to (SnapshotOrCleaner (Fresh ino 0 pages)) r)

-- the cleaning that was chosen: entry by entry, or by whole log pages
abbrev pub chosen_turn : Bool → ℕ → Shared → HandState → Running → Turn
chosen_turn true ino s h r =
    thorough_turn (wanted_of (cell_at s ino)).dropped (wanted_of (cell_at s ino)).pages ino s h r
chosen_turn false ino s h r = Moves s h (go_to (SnapshotOrCleaner (Unlink ino)) r)

-- a slot without an inode is refused first; then the walk takes memory
abbrev pub inode_turn : Bool → Manner → ℕ → Bool → Shared → HandState → Running → Turn
inode_turn false manner ino granted s h r = refuse Stale s h r
inode_turn true manner ino granted s h r = grown granted (chosen_turn (is_thorough manner (cell_at s ino)) ino s h r) s h r

-- a planning: a number out of range is refused as a slot without an inode
abbrev pub plan_cleaning_turn : Manner → Option ℕ → Bool → Shared → HandState → Running → Turn
plan_cleaning_turn manner None granted s h r = refuse Stale s h r
plan_cleaning_turn manner (Some ino) granted s h r = inode_turn (has_inode (cell_at s ino)) manner ino granted s h r

-- ---- fresh: log pages from one list

-- a cleaner goes on to its cleaning once no log page is wanted, else to the next list, or is refused
abbrev pub fresh_turn : ℕ → Bool → ℕ → ℕ → Shared → HandState → Running → Turn
fresh_turn zero more ino asked s h r = Moves s h (go_to (SnapshotOrCleaner (Compact ino)) r)
fresh_turn (suc n) true ino asked s h r = Moves s h (go_to (SnapshotOrCleaner (Fresh ino (asked + 1) (suc n))) r)
fresh_turn (suc n) false ino asked s h r = refuse NoSpace s h r

-- the hand with the lowest blocks of a list as log pages
abbrev pub with_fresh : ℕ → ℕ → Shared → HandState → HandState
with_fresh cpu wanted s h = record h { pages = h.pages ++ take wanted (list_at s cpu).blocks }

-- a cleaner takes log pages of a list
abbrev pub take_fresh_turn : ℕ → ℕ → ℕ → ℕ → Shared → HandState → Running → Turn
take_fresh_turn cpu ino asked wanted s h r =
    fresh_turn (wanted - length (list_at s cpu).blocks) (nat_lt (asked + 1) (length s.lists)) ino asked (less_list cpu wanted s)
    (with_fresh cpu wanted s h) r

-- ---- unlink: the pages that nothing needs go to the hand

-- the cell without the log pages that nothing needs
abbrev pub unlinked : CellState → CellState
unlinked cell = with_pages_unlinked (unlinkable_of cell) cell

-- the hand with those log pages
abbrev pub with_unlinked : CellState → HandState → HandState
with_unlinked cell h = record h { pages = h.pages ++ gone_of (unlinkable_of cell).stays cell.chain.blocks }

-- an unlink: the cell without them, and what it answers
abbrev pub unlink_turn : ℕ → Shared → HandState → Running → Turn
unlink_turn ino s h r =
    end_turn r.slots (Cleans (answer_of false (cell_at s ino) (unlinked (cell_at s ino)))) (with_cell ino (unlinked (cell_at s ino)) s)
    (with_unlinked (cell_at s ino) h) r

-- ---- compact: the entries that stay move to the fresh pages, and the old chain goes to the hand

-- the cell with the entries that stay, on the hand's log pages
abbrev pub compacted_cell : HandState → CellState → CellState
compacted_cell h cell = left_in (wanted_of cell).stays (compacted (wanted_of cell).stays h.pages cell.chain) cell

-- the hand with the old chain in the place of its log pages
abbrev pub with_old_chain : CellState → HandState → HandState
with_old_chain cell h = record h { pages = []; chain = h.chain ++ cell.chain.blocks }

-- a compact: the cell on its new log pages, and what it answers
abbrev pub compact_turn : ℕ → Shared → HandState → Running → Turn
compact_turn ino s h r =
    end_turn r.slots (Cleans (answer_of true (cell_at s ino) (compacted_cell h (cell_at s ino))))
    (with_cell ino (compacted_cell h (cell_at s ino)) s) (with_old_chain (cell_at s ino) h) r
