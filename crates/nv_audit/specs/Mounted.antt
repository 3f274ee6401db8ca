-- What a mount makes of an image: its logs as journals cut them, the cell of each slot, the book, the free lists and the pool.
use Rattle.std.specs.Prelude.{ℕ, ◌+◌, ◌-◌, ◌==◌, ◌&&◌, Bool, true, if◌then◌else◌, not, nat_le, nat_lt, List, [], ◌∷◌, filter, length, map, take, unwrap_or}
use Rattle.std.specs.List.{flat_map, list_all, list_any, range_with_len}
use Rattle.nv_alloc.specs.Block.{BlockValue, block_by, zero_block}
use Rattle.nv_alloc.specs.FreeList.{FreeBlocks}
use Rattle.nv_alloc.specs.InodePool.{FreeInodes}
use Rattle.nv_alloc.specs.Numbers.{has, unused}
use Rattle.nv_base.specs.Homes.{home_start}
use Rattle.nv_base.specs.declared.geometry.GeometryNumbers.{GeometryNumbers}
use Rattle.nv_book.specs.Book.{BookState, book_told}
use Rattle.nv_book.specs.declared.record.Record.{Record}
use Rattle.nv_cell.specs.Anew.{cell_by}
use Rattle.nv_cell.specs.Cell.{CellState, empty_cell, stored_in}
use Rattle.nv_cell.specs.Readers.{is_gone}
use Rattle.nv_entry.specs.Held.{is_current, is_held}
use Rattle.nv_entry.specs.Log.{pairs}
use Rattle.nv_entry.specs.declared.held.Pair.{Pair}
use Rattle.nv_entry.specs.declared.item.Entry.{Entry}
use Rattle.nv_journal.specs.Journal.{settled_tail}
use Rattle.nv_journal.specs.declared.old_tail.OldTail.{OldTail}
use Rattle.nv_log.specs.Image.{cut_chain}
use Rattle.nv_audit.specs.Image.{ImageValue, SlotImageValue, all_notes, image_blocks, slot_of}
use Rattle.nv_audit.specs.Pool.{is_used}

-- ---- cut logs

-- a note of a journal is good: its inode has a log page, and its tail is not past the inode's own
abbrev pub is_note_good : ImageValue → OldTail → Bool
is_note_good image note =
    nat_lt 0 (length (slot_of image note.ino).chain.pages) && nat_le note.tail (slot_of image note.ino).chain.tail

-- no two notes are of one inode
abbrev pub are_apart : List OldTail → Bool
are_apart [] = true
are_apart (note ∷ notes) = list_all (λ (other : OldTail). not (other.ino == note.ino)) notes && are_apart notes

-- all notes of journals are good, and no inode is noted twice.
-- Example: a rename from one directory to another has moved the first tail when the device stops.
-- Its journal is open, so both logs are cut at their old tails.
abbrev pub are_journals_good : ImageValue → Bool
are_journals_good image = list_all (is_note_good image) (all_notes image.journals) && are_apart (all_notes image.journals)

-- where a log is cut: at the tail that an open journal has noted for it, else at its own.
-- Where the journals are bad, each log is cut at its own tail.
abbrev pub cut_tail : Bool → ImageValue → ℕ → ℕ
cut_tail good image ino =
    if good then settled_tail image.journals ino (slot_of image ino).chain.tail else (slot_of image ino).chain.tail

-- where the log of an inode ends in an image
abbrev pub tail_of : ImageValue → ℕ → ℕ
tail_of image ino = cut_tail (are_journals_good image) image ino

-- THE CUT LOG of a slot: its entries up to the tail where it is cut
abbrev pub cut_log : ImageValue → ℕ → List Entry
cut_log image ino = take (tail_of image ino) (slot_of image ino).chain.entries

-- ---- records

-- a mount makes a record of the pair: it is not current, and a living snapshot holds it
abbrev pub is_recorded : List ℕ → Pair → Bool
is_recorded living pair = not (is_current pair) && is_held living pair

-- the record of a pair, as a mount makes it
abbrev pub record_by : ℕ → Pair → Record
record_by ino pair = record { ino = ino; entry = pair.entry; part = pair.part; birth = pair.birth; death = unwrap_or pair.death 0 }

-- the records that a mount makes of a log, in order
abbrev pub log_records : ℕ → List ℕ → ℕ → List Entry → List Record
log_records block living ino log = map (record_by ino) (filter (is_recorded living) (pairs block log))

-- ---- cells

-- the cell of a slot by the first `n` entries of its log
abbrev pub cell_with : GeometryNumbers → List ℕ → ℕ → SlotImageValue → CellState
cell_with g living n slot = cell_by g.block slot.generation living (cut_chain g.page n slot.chain) slot.blocks

-- the inode of a log is over: it is gone, and no living snapshot holds a pair of it.
-- A mount erases it: its cell is empty, and of the next generation.
abbrev pub is_over : List ℕ → ℕ → List Entry → Bool
is_over living block log = is_gone log && not (list_any (is_held living) (pairs block log))

-- the cell that a mount makes of the first entries of a slot
abbrev pub cell_anew : GeometryNumbers → List ℕ → ℕ → SlotImageValue → CellState
cell_anew g living n slot =
    if is_over living g.block (take n slot.chain.entries) then empty_cell g.block g.page (slot.generation + 1) 0
    else cell_with g living n slot

-- THE CELL OF A SLOT: its cut log on its pages, with the marks anew, and of version 0.
-- Each page that is not out has the block of the number that its entry says.
abbrev pub cell_of : ImageValue → ℕ → CellState
cell_of image ino = cell_anew image.numbers image.snapshots (tail_of image ino) (slot_of image ino)

-- the cells that a mount makes of an image
abbrev pub cells_of : ImageValue → List CellState
cells_of image = map (cell_of image) (range_with_len 0 (length image.slots))

-- ---- the book

-- the records that a mount makes of one slot, in the order of its cut log
abbrev pub slot_records : ImageValue → ℕ → List Record
slot_records image ino = log_records image.numbers.block image.snapshots ino (cut_log image ino)

-- THE RECORDS ANEW: those of the kept parts, by rising inode number and then in log order
abbrev pub records_anew : ImageValue → List Record
records_anew image = flat_map (slot_records image) (range_with_len 0 (length image.slots))

-- THE BOOK: no snapshot is pinned, nothing is deferred, no journal is open, and the history begins
-- with the image's epoch and commit number
abbrev pub book_anew : ImageValue → BookState
book_anew image = book_told image.numbers image.snapshots image.epoch image.commit (records_anew image)

-- ---- free lists and the pool

-- the blocks that the cells have
abbrev pub used_anew : ImageValue → List ℕ
used_anew image = flat_map stored_in (cells_of image)

-- a free block has the bytes that it has in the image; one that does not stand there has zeros
abbrev pub free_block : ImageValue → ℕ → BlockValue
free_block image number = unwrap_or (block_by (image_blocks image) number) (zero_block image.numbers.block number)

-- the free list of a CPU: the blocks of its home range that are not used
abbrev pub list_anew : GeometryNumbers → (ℕ → Bool) → (ℕ → BlockValue) → ℕ → FreeBlocks
list_anew g is_used block cpu = record {
  start = home_start g.blocks g.cpus cpu;
  end = home_start g.blocks g.cpus (cpu + 1);
  size = g.block;
  blocks = map block (unused is_used (home_start g.blocks g.cpus cpu) (home_start g.blocks g.cpus (cpu + 1) - home_start g.blocks g.cpus cpu));
}

-- The lists anew have the blocks that no cell has, each in its home list, with the bytes that it has in the image.
-- A block that is not in the image has zeros.
abbrev pub lists_anew : ImageValue → List FreeBlocks
lists_anew image =
    map (list_anew image.numbers (has (used_anew image)) (free_block image)) (range_with_len 0 image.numbers.cpus)

-- the pool: the slots whose number is not in use
abbrev pub pool_anew : ImageValue → FreeInodes
pool_anew image = record { inodes = image.numbers.inodes; numbers = unused (is_used (cells_of image)) 0 image.numbers.inodes }
