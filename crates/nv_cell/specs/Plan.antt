-- Index and marks of the first entries of a log, as they are made anew.
use Rattle.std.specs.Prelude.{◌≡◌, ℕ, ◌+◌, ◌<◌, ◌≤◌, List, [], length, take, vec_capacity}
use Rattle.nv_alloc.specs.Block.{AreSized, BlockValue}
use Rattle.nv_entry.specs.declared.item.Entry.{Entry}
use Rattle.nv_log.specs.Chain.{ChainValue}
use Rattle.nv_nindex.specs.NameIndex.{HaveSameBindings}
use Rattle.nv_cell.specs.declared.marks.Marks.{Marks}
use Rattle.nv_cell.specs.declared.plan.CellPlan.{CellPlan}
use Rattle.nv_cell.specs.declared.scan.Scan.{Scan}
use Rattle.nv_cell.specs.Anew.{AreThere, blocks_anew, marks_anew}
use Rattle.nv_cell.specs.Cell.{mark_or_fresh}
use Rattle.nv_cell.specs.Index.{bindings_of}
use Rattle.nv_cell.specs.Marks.{mark_at}
use Rattle.nv_cell.specs.Numbers.{AreEnds, part_base}
use Rattle.nv_cell.specs.Reading.{IsIndexOf}
use Rattle.nv_cell.specs.Slots.{by_part, slot_total}
use Rattle.nv_cell.specs.Tallies.{end_at}

-- for how many log pages a chain has room, those that are there included
abbrev pub page_room : ChainValue → ℕ
page_room chain = length chain.state.blocks + chain.spare

-- marks have the ends of the parts of each entry of a chain, and room for what follows from them
pub record HaveEnds (chain : ChainValue) (marks : Marks) : Type 0 where
  -- the parts of an entry begin behind those of the entries before it
  pub ends : AreEnds marks.ends.items chain.state.entries
  -- there is an end for the parts of each entry
  pub len : length marks.ends.items ≡ length chain.state.entries
  -- each entry's parts end at the number of parts that the entries up to it have
  pub ended : (i : ℕ) → i < length chain.state.entries → end_at marks.ends.items i ≡ part_base chain.state.entries (i + 1)
  -- there is room for the ends of all entries
  pub ends_room : length chain.state.entries ≤ vec_capacity marks.ends
  -- there is room for the tallies of all entries
  pub tallies_room : length chain.state.entries ≤ vec_capacity marks.tallies
  -- there is room for the counts of all log pages, those to add too
  pub pages_room : page_room chain ≤ vec_capacity marks.pages

-- a scan of a chain, of which the first `tail` entries are to count, has gone over the first `t`
pub record IsScanned (block : ℕ) (living : List ℕ) (chain : ChainValue) (tail t : ℕ) (scan : Scan) : Type 0 where
  -- the index names at each key the part that these entries give
  pub refs : IsIndexOf block (take t chain.state.entries) scan.index
  -- the names of the index are bound as these entries bind them
  pub names : HaveSameBindings (bindings_of (take t chain.state.entries)) scan.index.names.names
  -- the marks have the ends of the parts of each entry of the chain
  pub ends : HaveEnds chain scan.marks
  -- each part of the first `tail` entries has a mark
  pub len : length scan.marks.marks.items ≡ part_base chain.state.entries tail
  -- a part has its mark by the first `t` entries; one of a later entry is current
  pub marks : (n : ℕ) → n < part_base chain.state.entries tail
      → mark_at scan.marks.marks.items n ≡ mark_or_fresh (marks_anew living block (take t chain.state.entries)) n

-- a plan has the index and the marks of a log, and room for what follows on so many log pages
pub record IsPlan (block : ℕ) (living : List ℕ) (log : List Entry) (pages : ℕ) (plan : CellPlan) : Type 0 where
  -- the index names at each key the part that one scan of the log finds
  pub refs : IsIndexOf block log plan.index
  -- the names of the index are bound as the log binds them
  pub names : HaveSameBindings (bindings_of log) plan.index.names.names
  -- each part has its mark by the living snapshots
  pub marks : plan.marks.marks.items ≡ marks_anew living block log
  -- there is room for the ends of all entries
  pub ends_room : length log ≤ vec_capacity plan.marks.ends
  -- there is room for the tallies of all entries
  pub tallies_room : length log ≤ vec_capacity plan.marks.tallies
  -- there is room for the counts of so many log pages
  pub pages_room : pages ≤ vec_capacity plan.marks.pages

-- a plan has no block yet
pub record IsBare (log : List Entry) (plan : CellPlan) : Type 0 where
  -- the list of part slots is empty
  pub none : plan.blocks.items ≡ []
  -- there is room for the part slots of all entries
  pub room : slot_total log ≤ vec_capacity plan.blocks

-- each part of a plan has the block that it is to have, out of these blocks
pub record IsFilled (block : ℕ) (living : List ℕ) (blocks : List BlockValue) (log : List Entry) (plan : CellPlan) : Type 0 where
  -- each page that is not out has its block among these
  pub there : AreThere block living blocks log
  -- each of these blocks has `block` bytes
  pub sized : AreSized block blocks
  -- each part of an entry except the first has a slot
  pub slots : length plan.blocks.items ≡ slot_total log
  -- the slots have the blocks that the parts are to have
  pub are : by_part log plan.blocks.items ≡ blocks_anew blocks block log (marks_anew living block log)
