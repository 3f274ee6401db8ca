-- What a call reads: nodes by the cells that hold them, the slots that it locks, its plan, and how much it takes.
pub use Rattle.nv_calls.specs.Locked.{if_number, slots_in, with_slot}
use Rattle.std.specs.Prelude.{ℕ, ◌+◌, ◌/◌, ◌==◌, if◌then◌else◌, Bool, false, is_some, nat_lt, List, [], ◌∷◌, filter, length, Option, Some, None, slice_index_or}
use Rattle.std.specs.List.{list_any, sum_by}
use Rattle.nv_calls.specs.Locked.{slots_among}
use Rattle.nv_calls.specs.declared.looked.LookupResult.{LookupResult}
use Rattle.nv_alloc.specs.Block.{BlockValue, numbers_of}
use Rattle.nv_alloc.specs.FreeList.{FreeBlocks, is_home}
use Rattle.nv_base.specs.declared.numbers.Handle.{Handle}
use Rattle.nv_calls.specs.AllCalls.{plan}
use Rattle.nv_calls.specs.declared.allocation.Allocation.{Allocation}
use Rattle.nv_calls.specs.Plain.{PlainNode, node_in, stamped}
use Rattle.nv_calls.specs.Plan.{block_runs_of}
use Rattle.nv_calls.specs.Slots.{items_for, last_commit}
use Rattle.nv_calls.specs.declared.call.Call.{Call}
use Rattle.nv_calls.specs.declared.call.Call.TheVariants as call
use Rattle.nv_calls.specs.declared.plan.InodePlan.{InodePlan}
use Rattle.nv_cell.specs.Cell.{CellState, log_of}
use Rattle.nv_entry.specs.Node.{block_now, node_now}
use Rattle.nv_entry.specs.declared.node.NodeCopy.{NodeCopy}
use Rattle.nv_log.specs.Chain.{pages_for}
use Rattle.nv_machine.specs.World.{HandState, Running, Shared, cell_at}

-- ---- nodes

-- the bytes of the block of that number among a cell's
abbrev pub bytes_among : List (Option BlockValue) → ℕ → List ℕ
bytes_among [] number = []
bytes_among (None ∷ blocks) number = bytes_among blocks number
bytes_among (Some b ∷ blocks) number = if b.number == number then b.bytes else bytes_among blocks number

-- the node of a cell, by its log up to the tail
abbrev pub node_of : CellState → Option PlainNode
node_of cell = stamped (last_commit (log_of cell)) (node_now (bytes_among cell.blocks) cell.block (log_of cell))

-- what a call reads: the nodes of cells, each by its log up to the tail, where the generation is
-- the slot's
abbrev pub nodes : Shared → Handle → Option PlainNode
nodes s handle = if handle.generation == (cell_at s handle.ino).generation then node_of (cell_at s handle.ino) else None

-- the same nodes without the commits that changed them
abbrev pub copies : Shared → Handle → Option NodeCopy
copies s = node_in (nodes s)

-- ---- slots

-- the slots that a call locks, in rising number, each once: those of its handles, of what its
-- looks found, and of the number in its hand
abbrev pub slots_of : Shared → Option ℕ → LookupResult → Call → List ℕ
slots_of s number looked c = slots_among (length s.cells) number looked c

-- whether a plan has entries for a slot
abbrev pub is_written : List InodePlan → ℕ → Bool
is_written plan ino = nat_lt 0 (length (items_for plan ino))

-- the inodes that get entries, in rising number
abbrev pub written_slots : Running → List ℕ
written_slots r = filter (is_written r.plan) r.slots

-- the slot at a place of a list
abbrev pub slot_at : List ℕ → ℕ → ℕ
slot_at slots place = slice_index_or slots place 0

-- ---- the plan

-- whether the page that a size ends in is present
abbrev pub has_last_page : ℕ → Shared → Call → Bool
has_last_page block s (call.Size file size) = is_some (block_now block (log_of (cell_at s file.ino)) (size / block))
has_last_page block s other = false

-- what a plan is made with: the new handle, and the data blocks in the hand
abbrev pub taken_by : ℕ → Shared → HandState → Running → Allocation
taken_by block s h r = record { made = r.made; runs = block_runs_of (numbers_of h.blocks) }

-- the plan of a call, with the blocks in its hand as maximal runs, in the order taken
abbrev pub plan_by : ℕ → Shared → HandState → Running → List InodePlan
plan_by block s h r = plan block (copies s) (taken_by block s h r) r.call

-- by how many log pages a slot's log grows for a plan's entries
abbrev pub pages_needed : Shared → List InodePlan → ℕ → ℕ
pages_needed s plan ino = pages_for (cell_at s ino).chain (length (items_for plan ino))

-- by how many log pages the logs of these slots grow for a plan's entries
abbrev pub pages_wanted : Shared → List ℕ → List InodePlan → ℕ
pages_wanted s slots plan = sum_by (pages_needed s plan) slots

-- ---- homes

-- the first CPU from one on whose list is home of some of these blocks
abbrev pub home_from : ℕ → ℕ → List FreeBlocks → List BlockValue → Option ℕ
home_from from cpu [] blocks = None
home_from from cpu (list ∷ lists) blocks =
    if nat_lt cpu from then home_from from (cpu + 1) lists blocks
    else if list_any (λ (b : BlockValue). is_home list b.number) blocks then Some cpu else home_from from (cpu + 1) lists blocks
