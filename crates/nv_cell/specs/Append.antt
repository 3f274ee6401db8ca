-- What appending an entry makes of a cell.
use Rattle.std.specs.Prelude.{ℕ, ◌+◌, ◌-◌, ◌<◌, ◌≤◌, List, [], ◌∷◌, ◌++◌, length, map, replicate, take, Option, Some, None}
use Rattle.std.specs.Option.{ForSome}
use Rattle.nv_alloc.specs.Block.{BlockValue}
use Rattle.nv_base.specs.Ids.{IsIdBefore}
use Rattle.nv_base.specs.declared.limits.TheConstants.{FILE_PAGES}
use Rattle.nv_entry.specs.declared.item.Entry.{Entry}
use Rattle.nv_entry.specs.declared.item.Item.{Item}
use Rattle.nv_base.specs.declared.node.Kind.{Kind}
use Rattle.nv_entry.specs.declared.item.Item.TheVariants.{Init, Write}
use Rattle.nv_entry.specs.Blocks.{item_blocks}
use Rattle.nv_entry.specs.Covered.{part_count}
use Rattle.nv_entry.specs.Keys.{parts_of}
use Rattle.nv_log.specs.Chain.{appended as appended_chain, last_epoch, last_id, room_of, with_page}
use Rattle.nv_cell.specs.Cell.{CellRoom, CellState, CellValue, published}

-- the pages of an item are ones that a file can have
abbrev pub IsWithinFile : Item → Type 0
IsWithinFile (Write first run size) = first + run.len ≤ FILE_PAGES
IsWithinFile item = Unit {0}

-- the front blocks of a list, one for each page of an item
abbrev pub blocks_for : Item → List BlockValue → List BlockValue
blocks_for item blocks = take (length (item_blocks item)) blocks

-- the block of each part of an item, by its place: a page has one, and no other part
abbrev pub part_blocks : Item → List BlockValue → List (Option BlockValue)
part_blocks (Write first run size) blocks = None ∷ map Some blocks
part_blocks item blocks = replicate (length (parts_of item)) None

-- an entry may be appended to a cell
pub record MayAppend (e : Entry) (cell : CellValue) : Type 0 where
  -- there is room for it on the log pages that are there
  pub page : 0 < room_of cell.state.chain
  -- there is room for one more entry
  pub entries : 0 < cell.room.entries
  -- there is room for its parts
  pub parts : part_count e ≤ cell.room.parts
  -- its id stands behind that of the last entry
  pub id : ForSome (last_id cell.state.chain) (λ last. IsIdBefore last e.id)
  -- its epoch is not below that of the last entry
  pub epoch : ForSome (last_epoch cell.state.chain) (λ last. last ≤ e.epoch)
  -- its pages are ones that a file can have
  pub within : IsWithinFile e.item

-- the cell with one more entry past the tail, and with the blocks of its pages
abbrev pub appended : Entry → List BlockValue → CellState → CellState
appended e blocks cell = record cell { chain = appended_chain e cell.chain; blocks = cell.blocks ++ part_blocks e.item blocks }

-- the room that is left once an entry with so many parts was appended
abbrev pub after_append : ℕ → CellRoom → CellRoom
after_append parts room = record room { entries = room.entries - 1; parts = room.parts - parts }

-- ---- the inode that a device begins with

-- the first entry of its log
abbrev pub first_entry : Kind → ℕ → ℕ → Entry
first_entry kind mode epoch = record { id = record { commit = 0; place = 0 }; epoch = epoch; item = Init kind mode }

-- an empty slot once it has that page for its log, and one published entry; its version stays
abbrev pub founded : Entry → BlockValue → CellState → CellState
founded e page cell = record (published (appended e [] (record cell { chain = with_page page cell.chain }))) { version = cell.version }
