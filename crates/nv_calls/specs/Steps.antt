-- What the steps of a commit make of a cell.
use Rattle.std.specs.Prelude.{◌≡◌, ℕ, ◌+◌, ◌-◌, ◌<◌, ◌≤◌, ◌^◌, List, [], ◌∷◌, ◌++◌, drop, length, take}
use Rattle.std.specs.List.{AllByRecursion, flat_map}
use Rattle.std.specs.Option.{ForSome}
use Rattle.nv_alloc.specs.Block.{BlockValue, numbers_of}
use Rattle.nv_alloc.specs.Queue.{QueueValue}
use Rattle.nv_alloc.specs.declared.hand.Hand.{Hand}
use Rattle.nv_base.specs.Ids.{IsIdBefore}
use Rattle.nv_base.specs.declared.numbers.EntryId.{EntryId}
use Rattle.nv_entry.specs.declared.item.Entry.{Entry}
use Rattle.nv_entry.specs.declared.item.Item.{Item}
use Rattle.nv_entry.specs.Covered.{part_count}
use Rattle.nv_log.specs.Chain.{ChainState, last_epoch, last_id, pages_for}
use Rattle.nv_entry.specs.Blocks.{item_blocks}
use Rattle.nv_cell.specs.Append.{IsWithinFile, after_append, appended, blocks_for}
use Rattle.nv_cell.specs.Cell.{CellValue}
use Rattle.nv_cell.specs.Room.{IsReadyToAppend}
use Rattle.nv_calls.specs.declared.stamp.Stamp.{Stamp}
use Rattle.nv_calls.specs.Slots.{entries_of}

-- ---- appending

-- more pages behind the others of the log
abbrev pub with_new_pages : List BlockValue → CellValue → CellValue
with_new_pages pages cell = record {
  state = record cell.state { chain = record cell.state.chain { blocks = cell.state.chain.blocks ++ pages } };
  room = record cell.room { pages = cell.room.pages - length pages };
}

-- the cell with one more entry past the tail, whose pages are in the first of these blocks
abbrev pub with_entry : Entry → List BlockValue → CellValue → CellValue
with_entry e blocks cell = record { state = appended e (blocks_for e.item blocks) cell.state; room = after_append (part_count e) cell.room }

-- the numbers of the blocks of the items' pages
abbrev pub numbers_in : List Item → List ℕ
numbers_in items = flat_map item_blocks items

-- the cell with several more entries past the tail, one behind the other
abbrev pub with_entries : List Entry → List BlockValue → CellValue → CellValue
with_entries [] blocks cell = cell
with_entries (e ∷ later) blocks cell = with_entries later (drop (length (item_blocks e.item)) blocks) (with_entry e blocks cell)

-- the entries that items become in a commit, from a place in it on
abbrev pub stamped_entries : Stamp → ℕ → List Item → List Entry
stamped_entries stamp place items = entries_of stamp.commit stamp.epoch place items

-- the id of an entry of a commit, by its place
abbrev pub id_at : Stamp → ℕ → EntryId
id_at stamp place = record { commit = stamp.commit; place = place }

-- an entry of a commit
abbrev pub stamped_entry : Stamp → ℕ → Item → Entry
stamped_entry stamp place item = record { id = id_at stamp place; epoch = stamp.epoch; item = item }

-- the commit of that number and epoch comes after all entries of a cell
pub record IsLater (stamp : Stamp) (cell : CellValue) : Type 0 where
  -- the last entry is of an earlier commit
  pub commit : ForSome (last_id cell.state.chain) (λ last. last.commit < stamp.commit)
  -- the last entry is of no later epoch
  pub epoch : ForSome (last_epoch cell.state.chain) (λ last. last ≤ stamp.epoch)

-- entries of a commit may follow those of a cell, from a place in the commit on
pub record MayFollow (stamp : Stamp) (place : ℕ) (cell : CellValue) : Type 0 where
  -- the id of the last entry is before that of the entry at this place
  pub id : ForSome (last_id cell.state.chain) (λ last. IsIdBefore last (id_at stamp place))
  -- the last entry is of no later epoch
  pub epoch : ForSome (last_epoch cell.state.chain) (λ last. last ≤ stamp.epoch)

-- a queue begins with the blocks of the items' pages
pub record HaveBlocks (items : List Item) (block : ℕ) (queue : QueueValue) : Type 0 where
  -- a block of the queue has `block` bytes
  pub size : queue.size ≡ block
  -- the first blocks are those that the items name, in their order
  pub numbers : numbers_of (take (length (numbers_in items)) queue.blocks) ≡ numbers_in items
  -- the pages of the items are pages that a file can have
  pub within : AllByRecursion IsWithinFile items

-- a queue without so many blocks from the front
abbrev pub without_front : ℕ → QueueValue → QueueValue
without_front n queue = record queue { blocks = drop n queue.blocks; room = queue.room + n }

-- entries with these items can be appended to a cell from a place on, with what a hand holds
pub record CanAppendPlan (stamp : Stamp) (place : ℕ) (items : List Item) (hand : Hand) (cell : CellValue) : Type 0 where
  -- the cell has room to append and publish the items, and for the log pages that they take
  pub ready : IsReadyToAppend items cell
  -- the last entry of the cell is of an earlier commit, and of no later epoch
  pub later : IsLater stamp cell
  -- the hand has at least the log pages that the log takes
  pub pages : pages_for cell.state.chain (length items) ≤ length hand.pages.blocks
  -- the hand's log pages have the block size of the cell
  pub page_size : hand.pages.size ≡ cell.state.block
  -- the hand's first data blocks are those of the items
  pub blocks : HaveBlocks items cell.state.block hand.data
  -- the places of the entries in the commit are below 2^32
  pub places : place + length items < 2 ^ 32

-- the pages that a log takes from a hand for so many entries
abbrev pub pages_from : Hand → ChainState → ℕ → List BlockValue
pages_from hand chain entries = take (pages_for chain entries) hand.pages.blocks

-- the cell once the items of a plan are appended
abbrev pub with_plan : Stamp → ℕ → List Item → Hand → CellValue → CellValue
with_plan stamp place items hand cell =
    with_entries (stamped_entries stamp place items) hand.data.blocks (with_new_pages (pages_from hand cell.state.chain (length items)) cell)

-- the hand once the items of a plan are appended
abbrev pub hand_after : List Item → ChainState → Hand → Hand
hand_after items chain hand = record hand {
  «data» = without_front (length (numbers_in items)) hand.data;
  pages = without_front (pages_for chain (length items)) hand.pages;
}
