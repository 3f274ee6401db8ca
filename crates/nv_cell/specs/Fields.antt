-- The fields of a cell.
use Rattle.std.specs.Prelude.{◌≡◌, ℕ, ◌+◌, ◌-◌, ◌<◌, ◌≤◌, min, [], length, vec_capacity}
use Rattle.nv_alloc.specs.Block.{AreSized}
use Rattle.nv_entry.specs.Covered.{part_total}
use Rattle.nv_nindex.specs.NameIndex.{HaveSameBindings}
use Rattle.nv_cell.specs.declared.cell.InodeCell.TheInside.{Inside}
use Rattle.nv_cell.specs.Cell.{CellState, CellValue, HasBlocks, HasMarks, held_count, log_of}
use Rattle.nv_cell.specs.Index.{bindings_of}
use Rattle.nv_cell.specs.Numbers.{part_base}
use Rattle.nv_cell.specs.Reading.{IsIndexOf}
use Rattle.nv_cell.specs.Slots.{by_part, slot_total}
use Rattle.nv_cell.specs.Tallies.{AreTallied, HasSpare, end_at}

-- the state that the fields of a cell show
abbrev pub state_in : Inside → CellState
state_in c = record {
  block = c.block;
  generation = c.generation;
  version = c.version;
  chain = c.chain.state;
  marks = c.marks.marks.items;
  blocks = by_part c.chain.state.entries c.blocks.items;
}

-- the same state, with the room that the fields show
abbrev pub value_in : Inside → CellValue
value_in c = record {
  state = state_in c;
  room = record {
    pages = c.chain.spare;
    entries = c.entries;
    parts = c.parts;
    runs = c.index.pages.room;
    name = c.index.names.reserved;
    killed = min (vec_capacity c.numbers) (vec_capacity c.killed);
  };
}

-- the fields of a cell fit one another
pub record AreFields (c : Inside) : Type 0 where
  -- a block has at least one byte
  pub some : 0 < c.block
  -- each log page has as many bytes as a block
  pub pages : AreSized c.block c.chain.state.blocks
  -- the marks are those of the published parts
  pub marks : HasMarks (state_in c)
  -- the blocks are those of the parts
  pub blocks : HasBlocks (state_in c)
  -- the index names at each key the part that one scan of the log finds
  pub refs : IsIndexOf c.block (log_of (state_in c)) c.index
  -- the names of the index are bound as the log binds them
  pub names : HaveSameBindings (bindings_of (log_of (state_in c))) c.index.names.names
  -- there is an end for the parts of each published entry
  pub ends_len : length c.marks.ends.items ≡ c.chain.state.tail
  -- each published entry's parts end at the number of parts that the entries up to it have
  pub ends : (i : ℕ) → i < c.chain.state.tail → end_at c.marks.ends.items i ≡ part_base c.chain.state.entries (i + 1)
  -- tallies and counts are those of the marks
  pub tallied : AreTallied c.marks c.chain.state.ends
  -- there is room for marks and tallies of the entries past the tail, and of those to append
  pub spare : HasSpare c.marks (part_total c.chain.state.entries - length c.marks.marks.items + c.parts)
      (length c.chain.state.entries - c.chain.state.tail + c.entries)
  -- one number counts the blocks of the parts
  pub held : c.held ≡ held_count (state_in c).blocks
  -- each part of an entry except the first has a slot, also past the tail
  pub slots : length c.blocks.items ≡ slot_total c.chain.state.entries
  -- there is room for the slots of the parts to append
  pub blocks_room : slot_total c.chain.state.entries + c.parts ≤ vec_capacity c.blocks
  -- there is room for the counts of all log pages, those to add too
  pub pages_room : length c.chain.state.blocks + c.chain.spare ≤ vec_capacity c.marks.pages
  -- the list for numbers of killed parts is empty between calls
  pub no_numbers : c.numbers.items ≡ []
  -- the list for killed parts is empty between calls
  pub no_killed : c.killed.items ≡ []
