-- What contracts see of a cell, and what holds of each.
use Rattle.std.specs.Prelude.{◌≡◌, ℕ, ◌+◌, ◌-◌, ◌<◌, ◌≤◌, drop, not, if◌then◌else◌, nat_lt, List, [], ◌∷◌, length, map, Option, Some, None, slice_get, slice_index_or, option_and_then, slice_set, unwrap_or, count_by, is_some, option_to_list, ◌++◌}
use Rattle.std.specs.List.{flat_map, range_with_len, sum_by}
use Rattle.std.specs.Option.{option_map}
use Rattle.nv_alloc.specs.Block.{AreSized, BlockValue, number_of, numbers_of}
use Rattle.nv_entry.specs.declared.item.Entry.{Entry}
use Rattle.nv_entry.specs.declared.item.Item.{Item}
use Rattle.nv_entry.specs.declared.part.PartId.{PartId}
use Rattle.nv_entry.specs.Covered.{is_covered, key_at, part_count, part_total}
use Rattle.nv_entry.specs.Data.{block_in}
use Rattle.nv_entry.specs.Keys.{sets}
use Rattle.nv_entry.specs.Log.{value_of}
use Rattle.nv_log.specs.Chain.{ChainState, IsChain, empty_chain, log}
use Rattle.nv_cell.specs.declared.killed.KilledPart.{KilledPart}
use Rattle.nv_cell.specs.declared.mark.Mark.{Mark}
use Rattle.nv_cell.specs.declared.mark.Mark.TheVariants.{Current, Out}
use Rattle.nv_cell.specs.Marks.{is_current, is_there, mark_at}
use Rattle.nv_cell.specs.Effects.{NamesReady}
use Rattle.nv_cell.specs.Index.{bindings_of}
use Rattle.nv_cell.specs.Named.{number_named}
use Rattle.nv_cell.specs.Numbers.{killed_numbers, killed_part, published_mark}
use Rattle.nv_cell.specs.Weights.{page_runs_needed, weights_in}

-- what clauses see of a cell, except for its room
pub record CellState : Type 0 where
  -- how many bytes a block has
  pub block : ℕ
  -- the slot's generation: 1 at first, and one more each time that its inode is erased
  pub generation : ℕ
  -- how many commits were published in the slot; it outlasts the inode
  pub version : ℕ
  -- the log with its log pages, and the entries past the tail
  pub chain : ChainState
  -- the mark of each published part, by its number
  pub marks : List Mark
  -- the block of each part, or none, by its number; also of parts not yet published
  pub blocks : List (Option BlockValue)

-- for how much more there is room without memory
pub record CellRoom : Type 0 where
  -- how many log pages may be added
  pub pages : ℕ
  -- how many entries may be appended
  pub entries : ℕ
  -- how many parts these entries may have
  pub parts : ℕ
  -- how many page runs a publish may add
  pub runs : ℕ
  -- the name that is reserved for a publish to bind, if any
  pub name : Option (List ℕ)
  -- how many parts a publish may kill
  pub killed : ℕ

-- what clauses see of a cell
pub record CellValue : Type 0 where
  -- its log, its marks and its blocks
  pub state : CellState
  -- for how much more there is room
  pub room : CellRoom

-- room for nothing
abbrev pub no_room : CellRoom
no_room = record { pages = 0; entries = 0; parts = 0; runs = 0; name = None; killed = 0 }

-- an empty slot of that generation and version, of a device with such blocks and log pages
abbrev pub empty_cell : ℕ → ℕ → ℕ → ℕ → CellState
empty_cell block page generation version =
    record { block = block; generation = generation; version = version; chain = empty_chain page; marks = []; blocks = [] }

-- the log of a cell
abbrev pub log_of : CellState → List Entry
log_of cell = log cell.chain

-- the block number that the log says of its part `n`, if that is a page
abbrev pub page_block : ℕ → List Entry → ℕ → Option ℕ
page_block block [] n = None
page_block block (e ∷ later) n =
    if nat_lt n (part_count e)
    then option_and_then block_in (value_of (sets block e.item (key_at (e ∷ []) n)))
    else page_block block later (n - part_count e)

-- the mark of a part; the mark of one that is not yet published is current
abbrev pub mark_or_fresh : List Mark → ℕ → Mark
mark_or_fresh marks n = slice_index_or marks n Current

-- each block has so many bytes
abbrev pub AreSlotsSized : ℕ → List (Option BlockValue) → Type 0
AreSlotsSized block slots = (n : ℕ) (b : BlockValue) → slice_index_or slots n None ≡ Some b → length b.bytes ≡ block

-- the blocks of a cell are those of its parts
pub record HasBlocks (cell : CellState) : Type 0 where
  -- there is a place for the block of each part, also of parts not yet published
  pub len : length cell.blocks ≡ part_total cell.chain.entries
  -- each page that is not out has the block that its entry says, and no other part has one
  pub numbers : (n : ℕ)
      → option_map number_of (slice_index_or cell.blocks n None) ≡ (if is_there (mark_or_fresh cell.marks n)
      then page_block cell.block cell.chain.entries n
      else None)
  -- each block has as many bytes as the cell says
  pub sized : AreSlotsSized cell.block cell.blocks

-- the marks of a cell are those of its published parts
pub record HasMarks (cell : CellState) : Type 0 where
  -- each published part has a mark
  pub len : length cell.marks ≡ part_total (log_of cell)
  -- a part is marked current exactly where no later entry covers its key
  pub current : (n : ℕ) → n < part_total (log_of cell) → is_current (mark_at cell.marks n) ≡ not (is_covered cell.block (log_of cell) n)

-- how many of these places have a block
abbrev pub held_count : List (Option BlockValue) → ℕ
held_count places = count_by is_some places

-- the number of a block, if there is one
abbrev pub of_part : Option BlockValue → List ℕ
of_part block = numbers_of (option_to_list block)

-- the numbers of all blocks of a cell: those of its log pages, and those of its parts
abbrev pub stored_in : CellState → List ℕ
stored_in cell = numbers_of cell.chain.blocks ++ flat_map of_part cell.blocks

-- how many blocks a cell has, those of its log pages and those of its parts
abbrev pub block_total : CellState → ℕ
block_total cell = length cell.chain.blocks + held_count cell.blocks

-- what holds of each cell
pub record IsCell (cell : CellState) : Type 0 where
  -- a block has at least one byte
  pub some : 0 < cell.block
  -- its log pages and entries make a chain
  pub chain : IsChain cell.chain
  -- each log page has as many bytes as a block
  pub pages : AreSized cell.block cell.chain.blocks
  -- each published part has its mark
  pub marks : HasMarks cell
  -- each page that is not out has its block
  pub blocks : HasBlocks cell

-- the entries that are appended and not yet published
abbrev pub fresh_of : CellState → List Entry
fresh_of cell = drop cell.chain.tail cell.chain.entries

-- the numbers of the parts that the entries past the tail kill
abbrev pub killed_of : CellState → List ℕ
killed_of cell = killed_numbers cell.block cell.chain.entries cell.chain.tail

-- the parts that a publish kills: those that were current, or are newly published, and that a
-- later entry covers once all entries are published. They stand in the order of their numbers.
abbrev pub killed_by : CellState → List KilledPart
killed_by cell = flat_map (λ n. option_to_list (killed_part cell.chain.entries n)) (killed_of cell)

-- the cell with all entries published. What dies by that is marked killed, each other part of a
-- new entry is current, and all else has its mark.
abbrev pub published : CellState → CellState
published cell = record cell {
  version = cell.version + 1;
  chain = record cell.chain { tail = length cell.chain.entries };
  marks = map (published_mark cell.block cell.chain.entries cell.chain.tail cell.marks) (range_with_len 0 (part_total cell.chain.entries));
}

-- there is room to publish entries with these items behind the log
pub record CanPublish (items : List Item) (cell : CellValue) : Type 0 where
  -- there is room for two page runs for each Write
  pub runs : sum_by page_runs_needed items ≤ cell.room.runs
  -- at most one item binds a name, which is bound or reserved
  pub names : NamesReady items (record { names = bindings_of (log_of cell.state); reserved = cell.room.name })
  -- there is room for as many killed parts as the items weigh
  pub killed : weights_in cell.state.block (log_of cell.state) items ≤ cell.room.killed

-- after a publish there is room to append as much as before it
pub record KeepsAppendRoom (old new : CellRoom) : Type 0 where
  -- as many log pages may be added as before
  pub pages : new.pages ≡ old.pages
  -- as many entries may be appended as before
  pub entries : new.entries ≡ old.entries
  -- they may have as many parts as before
  pub parts : new.parts ≡ old.parts
  -- there is no room for killed parts
  pub killed : new.killed ≡ 0

-- the mark of a part of the log, by its name
abbrev pub mark_named : CellState → PartId → Option Mark
mark_named cell id = option_and_then (λ n. slice_get cell.marks n) (number_named (log_of cell) id)

-- the block of a part of the log, by its name
abbrev pub block_named : CellState → PartId → Option BlockValue
block_named cell id = option_and_then (λ n. slice_index_or cell.blocks n None) (number_named (log_of cell) id)

-- the number of a part of the log; 0 where it has none of that name
abbrev pub number_in : CellState → PartId → ℕ
number_in cell id = unwrap_or (number_named (log_of cell) id) 0

-- the cell with another mark of a part
abbrev pub with_mark : CellState → ℕ → Mark → CellState
with_mark cell n mark = record cell { marks = slice_set cell.marks n mark }

-- the cell with a part out, and without its block
abbrev pub without_part : CellState → ℕ → CellState
without_part cell n = record cell { marks = slice_set cell.marks n Out; blocks = slice_set cell.blocks n None }
