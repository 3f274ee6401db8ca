-- A cell that is made anew of a log.
-- Its marks follow from the living snapshots, and its blocks from what its entries say.
use Rattle.std.specs.Prelude.{◌≡◌, ℕ, ◌-◌, ◌&&◌, true, if◌then◌else◌, nat_le, nat_lt, List, [], ◌∷◌, map, Option, None, Some, option_and_then}
use Rattle.std.specs.List.{list_any, range_with_len}
use Rattle.std.specs.Option.{option_map}
use Rattle.nv_alloc.specs.Block.{BlockValue, block_by, number_of}
use Rattle.nv_entry.specs.Covered.{part_count, part_total}
use Rattle.nv_entry.specs.Held.{is_current, is_held}
use Rattle.nv_entry.specs.Log.{pairs}
use Rattle.nv_entry.specs.declared.held.Pair.{Pair}
use Rattle.nv_entry.specs.declared.item.Entry.{Entry}
use Rattle.nv_log.specs.Chain.{ChainState}
use Rattle.nv_cell.specs.Cell.{CellState, page_block}
use Rattle.nv_cell.specs.Marks.{is_there, mark_at}
use Rattle.nv_cell.specs.declared.mark.Mark.{Mark}
use Rattle.nv_cell.specs.declared.mark.Mark.TheVariants.{Current, Kept, Out}

-- the mark of a pair by the living snapshots: current where nothing covers it, else kept where one
-- of them holds it, else out
abbrev pub mark_by : List ℕ → Pair → Mark
mark_by living pair = if is_current pair then Current else if is_held living pair then Kept else Out

-- the marks of a log's parts by the living snapshots, in the order of their numbers
abbrev pub marks_anew : List ℕ → ℕ → List Entry → List Mark
marks_anew living block log = map (mark_by living) (pairs block log)

-- the mark of a part that has died: kept where a living snapshot holds it, else out
abbrev pub mark_ended : List ℕ → ℕ → ℕ → Mark
mark_ended living birth death = if list_any (λ s. nat_le birth s && nat_lt s death) living then Kept else Out

-- the epoch in which the part n of a log was born
abbrev pub birth_at : List Entry → ℕ → ℕ
birth_at [] n = 0
birth_at (e ∷ later) n = if nat_lt n (part_count e) then e.epoch else birth_at later (n - part_count e)

-- the block of the part `n` of a log: a page that is not out has the one that its entry says
abbrev pub block_anew : List BlockValue → ℕ → List Entry → List Mark → ℕ → Option BlockValue
block_anew blocks block log marks n =
    if is_there (mark_at marks n) then option_and_then (block_by blocks) (page_block block log n) else None

-- the block of each part of a log, or none, in the order of their numbers
abbrev pub blocks_anew : List BlockValue → ℕ → List Entry → List Mark → List (Option BlockValue)
blocks_anew blocks block log marks = map (block_anew blocks block log marks) (range_with_len 0 (part_total log))

-- each page of a log that is not to be out has its block among these
abbrev pub AreThere : ℕ → List ℕ → List BlockValue → List Entry → Type 0
AreThere block living blocks log =
    (n number : ℕ) → is_there (mark_at (marks_anew living block log) n) ≡ true → page_block block log n ≡ Some number
    → option_map number_of (block_by blocks number) ≡ Some number

-- the cell made anew of a chain, all of whose entries count, with what it needs of these blocks
abbrev pub cell_by : ℕ → ℕ → List ℕ → ChainState → List BlockValue → CellState
cell_by block generation living chain blocks = record {
  block = block;
  generation = generation;
  version = 0;
  chain = chain;
  marks = marks_anew living block chain.entries;
  blocks = blocks_anew blocks block chain.entries (marks_anew living block chain.entries);
}
