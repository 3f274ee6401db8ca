-- Free lists that are those of a scan of all logs and hands.
use Rattle.std.specs.Prelude.{◌≡◌, ℕ, ◌+◌, ◌<◌, ◌≤◌, Bool, false, not, if◌then◌else◌, List, [], ◌∷◌, ◌++◌, Option, option_and_then, option_to_list, slice_index_or, unwrap_or, length}
use Rattle.std.specs.List.{flat_map}
use Rattle.nv_base.specs.Homes.{home_start}
use Rattle.nv_base.specs.declared.geometry.GeometryNumbers.{GeometryNumbers}
use Rattle.nv_alloc.specs.Block.{numbers_of}
use Rattle.nv_alloc.specs.FreeList.{FreeBlocks}
pub use Rattle.nv_alloc.specs.FreeList.{no_list}
use Rattle.nv_alloc.specs.Numbers.{has}
use Rattle.nv_book.specs.Book.{BookState}
use Rattle.nv_cell.specs.Cell.{CellState, fresh_of, log_of, of_part}
use Rattle.nv_entry.specs.Data.{block_in}
use Rattle.nv_entry.specs.Held.{Retention, keeps}
use Rattle.nv_entry.specs.Keys.{key_of, parts_of, sets}
use Rattle.nv_entry.specs.Log.{pairs_of, value_of}
use Rattle.nv_entry.specs.declared.held.Pair.{Pair}
use Rattle.nv_entry.specs.declared.item.Entry.{Entry}
use Rattle.nv_entry.specs.declared.item.Item.{Item}
use Rattle.nv_entry.specs.declared.part.Part.{Part}
use Rattle.nv_book.specs.declared.record.Record.{Record}
use Rattle.nv_epoch.specs.SnapList.{ids}
use Rattle.nv_audit.specs.Pending.{retention_by}
use Rattle.nv_audit.specs.declared.part_list.InodePart.{InodePart}

-- ---- used blocks

-- the block that an item says of one of its parts, if that is a page
abbrev pub block_said : ℕ → Item → Part → Option ℕ
block_said block item part = option_and_then block_in (value_of (sets block item (key_of item part)))

-- the block that an item says of one of its parts, as a list
abbrev pub said_part : ℕ → Item → Part → List ℕ
said_part block item part = option_to_list (block_said block item part)

-- the blocks that an item says, in the order of its parts
abbrev pub said_of : ℕ → Item → List ℕ
said_of block item = flat_map (said_part block item) (parts_of item)

-- the blocks that entries say, in order
abbrev pub blocks_said : ℕ → List Entry → List ℕ
blocks_said block entries = flat_map (λ (e : Entry). said_of block e.item) entries

-- the block that an item says of a part, as a list; none where the part is not kept
abbrev pub said_if : Bool → ℕ → Item → Part → List ℕ
said_if is_kept block item part = if is_kept then said_part block item part else []

-- the block that an item says of a pair's part, as a list; none where the pair is not kept
abbrev pub kept_pair : Retention → Item → Pair → List ℕ
kept_pair r item pair = said_if (keeps r pair) r.block item pair.part

-- the blocks that an entry says of pairs that are kept, where `later` are the entries behind it
abbrev pub blocks_kept_of : Retention → Entry → List Entry → List ℕ
blocks_kept_of r e later = flat_map (kept_pair r e.item) (pairs_of r.block e later)

-- the blocks that a log says of pairs that are kept
abbrev pub blocks_kept : Retention → List Entry → List ℕ
blocks_kept r [] = []
blocks_kept r (e ∷ later) = blocks_kept_of r e later ++ blocks_kept r later

-- the blocks that an inode uses: the pages of its log, those of the pairs that are kept, and those of what is appended
-- and not yet published
abbrev pub used_by : Retention → CellState → List ℕ
used_by r cell = numbers_of cell.chain.blocks ++ blocks_kept r (log_of cell) ++ blocks_said r.block (fresh_of cell)

-- the blocks that a cell has for its parts
abbrev pub blocks_had : CellState → List ℕ
blocks_had cell = flat_map of_part cell.blocks

-- the blocks that all inodes from one on use, where calls have some parts in their hands
abbrev pub used_from : List ℕ → List Record → List InodePart → ℕ → List CellState → List ℕ
used_from snapshots deferred in_hands ino [] = []
used_from snapshots deferred in_hands ino (cell ∷ cells) =
    used_by (retention_by snapshots deferred in_hands ino cell) cell ++ used_from snapshots deferred in_hands (ino + 1) cells

-- THE USED BLOCKS, where calls have these parts and blocks in their hands
abbrev pub used_of : List CellState → BookState → List InodePart → List ℕ → List ℕ
used_of cells book in_hands blocks = used_from (ids book.snaps) book.deferred in_hands 0 cells ++ blocks

-- ---- free lists

-- the list, or that of no CPU
abbrev pub list_or_none : Option FreeBlocks → FreeBlocks
list_or_none list = unwrap_or list no_list

-- of a range of numbers a list has just those that pass no test
abbrev pub IsRangeFree : FreeBlocks → (ℕ → Bool) → ℕ → ℕ → Type 0
IsRangeFree list is_used start end = (n : ℕ) → start ≤ n → n < end → has (numbers_of list.blocks) n ≡ not (is_used n)

-- of each CPU's home range its list has just the numbers that are not used
abbrev pub AreAllFree : GeometryNumbers → List FreeBlocks → (ℕ → Bool) → Type 0
AreAllFree g lists is_used =
    (cpu : ℕ) → cpu < g.cpus
    → IsRangeFree (slice_index_or lists cpu no_list) is_used (home_start g.blocks g.cpus cpu) (home_start g.blocks g.cpus (cpu + 1))

-- Lists: of each CPU's home range its free list has just the numbers that are not used. Used are those of log
-- pages, also without an entry, of pages of pairs that are kept, of what is appended and not yet published, and of
-- hands.
abbrev pub AreFree : GeometryNumbers → List FreeBlocks → List ℕ → Type 0
AreFree g lists used = AreAllFree g lists (has used)

-- the mark of a number; one past the marks counts as not set
abbrev pub mark_at : List Bool → ℕ → Bool
mark_at marks n = slice_index_or marks n false

-- the marks of the numbers that are used
pub record AreMarked (blocks : ℕ) (used : List ℕ) (marks : List Bool) : Type 0 where
  -- there is a mark for each number below `blocks`
  pub len : length marks ≡ blocks
  -- a number below `blocks` is marked exactly where it is used
  pub marked : (n : ℕ) → n < blocks → mark_at marks n ≡ has used n
