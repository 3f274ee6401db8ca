-- Room for what is to follow.
use Rattle.std.specs.Prelude.{◌≡◌, ◌+◌, ◌*◌, ◌≤◌, List, ◌++◌, length, max, vec_capacity}
use Rattle.std.specs.Global.{Vec}
use Rattle.nv_entry.specs.declared.item.Item.{Item}
use Rattle.nv_entry.specs.Keys.{Key}
use Rattle.nv_log.specs.Chain.{ChainState, pages_for, room_of}
use Rattle.nv_cell.specs.declared.marks.Marks.{Marks}
use Rattle.nv_cell.specs.Cell.{CanPublish, CellRoom, CellValue, fresh_of}
use Rattle.nv_cell.specs.Effects.{items_of}
use Rattle.nv_cell.specs.Index.{IndexValue, ref_of}
use Rattle.nv_cell.specs.Weights.{parts_in}

-- there is room to append entries with these items
pub record CanAppend (items : List Item) (cell : CellValue) : Type 0 where
  -- the log pages that are there or may be added take all of them
  pub pages : length items ≤ room_of cell.state.chain + cell.room.pages * cell.state.chain.page
  -- there is room for as many entries
  pub entries : length items ≤ cell.room.entries
  -- there is room for all their parts
  pub parts : parts_in items ≤ cell.room.parts

-- a cell is ready for items
pub record IsReadyFor (items : List Item) (cell : CellValue) : Type 0 where
  -- entries with these items can be appended
  pub append : CanAppend items cell
  -- all that stands past the tail then can be published
  pub publish : CanPublish (items_of (fresh_of cell.state) ++ items) cell

-- a cell is ready for items, with all log pages that its log takes for them
pub record IsReadyToAppend (items : List Item) (cell : CellValue) : Type 0 where
  -- the cell is ready for them
  pub ready : IsReadyFor items cell
  -- as many log pages may be added as the log takes for the entries
  pub pages : pages_for cell.state.chain (length items) ≤ cell.room.pages

-- a log page was added to a chain
pub record AddsPage (old new : ChainState) : Type 0 where
  -- there is room for a log page's entries more
  pub room_rises : room_of new ≡ room_of old + old.page

-- no room is less than it was; of the reserved name nothing is said
pub record HasNoLess (old new : CellRoom) : Type 0 where
  -- no fewer log pages may be added
  pub pages : old.pages ≤ new.pages
  -- no fewer entries may be appended
  pub entries : old.entries ≤ new.entries
  -- these entries may have no fewer parts
  pub parts : old.parts ≤ new.parts
  -- a publish may add no fewer page runs
  pub runs : old.runs ≤ new.runs
  -- a publish may kill no fewer parts
  pub killed : old.killed ≤ new.killed

-- the room to append is what it was, or where that is more, what entries with these items ask for
pub record AsksFor (items : List Item) (old : CellValue) (new : CellRoom) : Type 0 where
  -- as many log pages may be added as before, or as the entries take where that is more
  pub pages : new.pages ≡ max old.room.pages (pages_for old.state.chain (length items))
  -- as many entries may be appended as before, or as there are items where that is more
  pub entries : new.entries ≡ max old.room.entries (length items)
  -- these may have as many parts as before, or as the items have where that is more
  pub parts : new.parts ≡ max old.room.parts (parts_in items)

-- a vector has grown in its room alone
pub record HasGrown {X : Type 0} (old new : Vec X) : Type 0 where
  -- its items are the same
  pub items : new.items ≡ old.items
  -- it has no less room in all
  pub capacity : vec_capacity old ≤ vec_capacity new

-- the vectors of marks have grown in their room alone
pub record HaveGrown (old new : Marks) : Type 0 where
  -- the marks are the same, with no less room
  pub marks : HasGrown old.marks new.marks
  -- the ends of the parts of entries are the same, with no less room
  pub ends : HasGrown old.ends new.ends
  -- the tallies are the same, with no less room
  pub tallies : HasGrown old.tallies new.tallies
  -- the counts of log pages are the same, with no less room
  pub pages : HasGrown old.pages new.pages
  -- as many parts are not out as before
  pub there : new.there ≡ old.there

-- an index has what another one has, and no less room
pub record HasSameParts (old new : IndexValue) : Type 0 where
  -- the same part is named at each key
  pub refs : (key : Key) → ref_of new key ≡ ref_of old key
  -- the runs of pages are the same
  pub pages : new.pages.pages ≡ old.pages.pages
  -- the same names are bound, to the same
  pub names : new.names.names ≡ old.names.names
  -- there is room for no fewer page runs
  pub room : old.pages.room ≤ new.pages.room
