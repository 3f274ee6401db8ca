-- What a world reports of its blocks and logs.
use Rattle.std.specs.Prelude.{◌≡◌, ℕ, ◌+◌, ◌-◌, ◌<◌, ◌≤◌, drop, None, slice_index_or, ◌&&◌, if◌then◌else◌, Bool, true, false, is_some, List, [], ◌∷◌, ◌++◌, length, map, replicate, Option}
use Rattle.std.specs.List.{range_with_len, sum_by}
use Rattle.nv_alloc.specs.Block.{BlockValue, numbers_of}
use Rattle.nv_alloc.specs.FreeList.{FreeBlocks}
use Rattle.nv_alloc.specs.Runs.{free_runs_of}
use Rattle.nv_alloc.specs.declared.runs.FreeRun.{FreeRun}
use Rattle.nv_cell.specs.Cell.{CellState, held_count, log_of, mark_or_fresh}
use Rattle.nv_cell.specs.Numbers.{part_base}
use Rattle.nv_cell.specs.Readers.{counts_of}
use Rattle.nv_book.specs.Book.{BookState}
use Rattle.nv_book.specs.Records.{block_count}
use Rattle.nv_cell.specs.declared.mark.Mark.{Mark}
use Rattle.nv_cell.specs.declared.mark.Mark.TheVariants.{Current, Killed, Kept, Out}
use Rattle.nv_book.specs.Manifests.{gain_of, held_of}
use Rattle.nv_epoch.specs.Holders.{next_older, youngest_holder}
use Rattle.nv_epoch.specs.SnapList.{ids}
use Rattle.nv_epoch.specs.declared.snapshot.Snapshot.{Snapshot}
use Rattle.nv_entry.specs.Covered.{part_count}
use Rattle.nv_entry.specs.declared.item.Entry.{Entry}
use Rattle.nv_core.specs.declared.reports.LogCounts.{LogCounts}
use Rattle.nv_core.specs.declared.reports.Space.{Space}
use Rattle.nv_core.specs.declared.snaps.SnapCounts.{SnapCounts}
use Rattle.nv_core.specs.declared.snaps.Snaps.{Snaps}
use Rattle.nv_machine.specs.Held.{pending_in}
use Rattle.nv_machine.specs.World.{Shared, World, cell_at, owner_at}

-- the free lists, CPU by CPU, as maximal runs
abbrev pub lists_of : Shared → List (List FreeRun)
lists_of s = map (λ (list : FreeBlocks). free_runs_of (numbers_of list.blocks)) s.lists

-- a log in numbers
abbrev pub counts_in : CellState → LogCounts
counts_in cell = record { entries = cell.chain.tail; pages = map (counts_of cell) (range_with_len 0 (length cell.chain.blocks)) }

-- the entries of a log up to its tail, and the counts of its log pages
abbrev pub log_at : Shared → ℕ → LogCounts
log_at s ino = counts_in (cell_at s ino)

-- ---- snapshots

-- a living snapshot: the recorded blocks that it holds, those that a drop defers, and its pins
abbrev pub snap_counts : BookState → Snapshot → SnapCounts
snap_counts book snapshot = record {
  snapshot = snapshot.number;
  held = held_of snapshot.number book.manifests;
  gain = gain_of snapshot.number (next_older (ids book.snaps) snapshot.number) book.manifests;
  pins = snapshot.pins;
}

-- of each living snapshot the recorded blocks that it holds, those that a drop would defer, and
-- its pins
abbrev pub snaps_of : BookState → Snaps
snaps_of book = record { epoch = book.snaps.epoch; commit = book.commit; living = map (snap_counts book) book.snaps.living }

-- ---- space

-- the epoch of each part's entry
abbrev pub births : List Entry → List ℕ
births [] = []
births (e ∷ log) = replicate (part_count e) e.epoch ++ births log

-- a part counts as kept that is current or recorded, or that was killed just now and is held by a living snapshot
abbrev pub is_part_kept : BookState → ℕ → Mark → Bool
is_part_kept book birth Current = true
is_part_kept book birth Kept = true
is_part_kept book birth Killed = is_some (youngest_holder (ids book.snaps) birth book.snaps.epoch)
is_part_kept book birth Out = false

-- whether a part has a block and is kept, as a number
abbrev pub one_of : BookState → ℕ → Mark → Option BlockValue → ℕ
one_of book birth mark block = if is_part_kept book birth mark && is_some block then 1 else 0

-- how many of the parts have a block and are kept
abbrev pub kept_among : BookState → List ℕ → List Mark → List (Option BlockValue) → ℕ
kept_among book [] marks blocks = 0
kept_among book (birth ∷ births) [] blocks = 0
kept_among book (birth ∷ births) (mark ∷ marks) [] = 0
kept_among book (birth ∷ births) (mark ∷ marks) (block ∷ blocks) =
    one_of book birth mark block + kept_among book births marks blocks

-- the data blocks of a cell that a living snapshot holds or that are current
abbrev pub kept_in : BookState → CellState → ℕ
kept_in book cell = kept_among book (births (log_of cell)) cell.marks cell.blocks

-- a slot whose lock nobody has keeps each data block that it has
abbrev pub KeepsUnlocked : Shared → Type 0
KeepsUnlocked s = (ino : ℕ) → ino < length s.cells → owner_at s ino ≡ None
    → kept_in s.book (cell_at s ino) ≡ held_count (cell_at s ino).blocks

-- the data blocks of one entry's parts that a living snapshot holds or that are current
abbrev pub kept_at : BookState → CellState → ℕ → Entry → ℕ
kept_at book cell place e =
    kept_among book (replicate (part_count e) e.epoch) (drop (part_base (log_of cell) place) cell.marks)
    (drop (part_base (log_of cell) place) cell.blocks)

-- the mark of an entry's part, current for one that is not published
abbrev pub mark_of : CellState → ℕ → ℕ → Mark
mark_of cell place k = mark_or_fresh cell.marks (part_base (log_of cell) place + k)

-- the block of an entry's part, if it has one
abbrev pub block_at : CellState → ℕ → ℕ → Option BlockValue
block_at cell place k = slice_index_or cell.blocks (part_base (log_of cell) place + k) None

-- the data blocks that are current or that a living snapshot holds
abbrev pub data_kept : Shared → ℕ
data_kept s = sum_by (kept_in s.book) s.cells

-- how many blocks of a list are free
abbrev pub free_in : FreeBlocks → ℕ
free_in list = length list.blocks

-- how many blocks are free
abbrev pub free_of : Shared → ℕ
free_of s = sum_by free_in s.lists

-- how many log pages a cell has
abbrev pub chain_in : CellState → ℕ
chain_in cell = length cell.chain.blocks

-- how many log pages there are
abbrev pub chain_of : Shared → ℕ
chain_of s = sum_by chain_in s.cells

-- where the blocks are: in free lists, pages of logs, current or held by a living snapshot, pending, of which there are
-- so many, and all others
abbrev pub space_in : ℕ → ℕ → Shared → Space
space_in blocks pending s = record {
  free = free_of s;
  chain = chain_of s;
  «data» = data_kept s - pending;
  pending = pending;
  hand = blocks - free_of s - chain_of s - data_kept s;
}

-- where the blocks are: in free lists; in logs; as data of parts that are current, recorded, or
-- killed just now and held, less the pending ones; pending, with a record that is deferred or
-- picked; and the rest
abbrev pub space_of : World → Space
space_of w = space_in w.numbers.blocks (block_count (pending_in w)) w.shared

-- free blocks, log pages and data together are no more than there are blocks
abbrev pub AddsUp : ℕ → Shared → Type 0
AddsUp blocks s = free_of s + chain_of s + data_kept s ≤ blocks
