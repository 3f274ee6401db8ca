-- What is left of a cell once entries are taken out of its log.
use Rattle.std.specs.Prelude.{◌≡◌, ℕ, zero, suc, ◌-◌, ◌≤◌, Bool, true, false, List, [], ◌∷◌, ◌++◌, length, replicate, slice_index_or, take}
use Rattle.std.specs.List.{AllByRecursion}
use Rattle.nv_entry.specs.declared.item.Entry.{Entry}
use Rattle.nv_entry.specs.Covered.{part_count}
use Rattle.nv_entry.specs.Leaving.{HidesNone}
use Rattle.nv_log.specs.Chain.{ChainState, end_of, gone_of, last_entry, left_of}
use Rattle.nv_cell.specs.declared.mark.Mark.TheVariants.{Out}
use Rattle.nv_cell.specs.declared.stays.Stays.{Stays}
use Rattle.nv_cell.specs.declared.stays.Stays.TheVariants.{Entries, Pages}
use Rattle.nv_cell.specs.Cell.{CellState, log_of}
use Rattle.nv_cell.specs.Readers.{is_gone}
use Rattle.nv_cell.specs.Reading.{stat_now}
use Rattle.nv_cell.specs.Slots.{slot_count}

-- a flag for each item of a list, by those of the runs that end at these places
abbrev pub run_flags : ℕ → List Bool → List ℕ → List Bool
run_flags start [] ends = []
run_flags start (stays ∷ flags) [] = []
run_flags start (stays ∷ flags) (end ∷ ends) = replicate (end - start) stays ++ run_flags end flags ends

-- the flag of each entry of a log, once for each of its items, of which the entry has `count`
abbrev pub flags_by : (Entry → ℕ) → List Bool → List Entry → List Bool
flags_by count [] log = []
flags_by count (stays ∷ flags) [] = []
flags_by count (stays ∷ flags) (e ∷ log) = replicate (count e) stays ++ flags_by count flags log

-- the flags of entries, once for each of their parts
abbrev pub part_flags : List Bool → List Entry → List Bool
part_flags flags log = flags_by part_count flags log

-- the flags of entries, once for each of their part slots
abbrev pub slot_flags : List Bool → List Entry → List Bool
slot_flags flags log = flags_by slot_count flags log

-- the number that an item had before others went, by its number among those that flags leave
abbrev pub source : List Bool → ℕ → ℕ
source [] n = n
source (true ∷ flags) zero = zero
source (true ∷ flags) (suc n) = suc (source flags n)
source (false ∷ flags) n = suc (source flags n)

-- the flags of log pages, once for each entry of the log
abbrev pub log_flags : List Bool → ChainState → List Bool
log_flags stays chain = take chain.tail (run_flags 0 stays chain.ends)

-- there is a flag for each entry of the log, or one for each log page with entries
abbrev pub AreFlags : Stays → ChainState → Type 0
AreFlags (Entries stays) chain = length stays.now ≡ chain.tail
AreFlags (Pages stays) chain = length stays.now ≡ length chain.ends

-- the flags of the log's entries, where flags are given for entries or for whole log pages
abbrev pub flags_of : Stays → ChainState → List Bool
flags_of (Entries stays) chain = stays.now
flags_of (Pages stays) chain = log_flags stays.now chain

-- no entry that goes hides an earlier one that stays; `before` are those that stay before these
abbrev pub HideNoneLeft : ℕ → List Entry → List Entry → List Bool → Type 0
HideNoneLeft block before [] flags = Unit {0}
HideNoneLeft block before (e ∷ later) [] = Unit {0}
HideNoneLeft block before (e ∷ later) (true ∷ flags) = HideNoneLeft block (before ++ e ∷ []) later flags
HideNoneLeft block before (e ∷ later) (false ∷ flags) = HidesNone block before e × HideNoneLeft block before later flags

-- the entries of a cell's log may go that flags mark as going
pub record MayGo (stays : List Bool) (cell : CellState) : Type 0 where
  -- the last entry of the log stays
  pub last : slice_index_or stays (length (log_of cell) - 1) true ≡ true
  -- every part of an entry that goes is out
  pub out : AllByRecursion (λ mark. mark ≡ Out) (gone_of (part_flags stays (log_of cell)) cell.marks)
  -- no entry that goes hides an earlier one that stays
  pub hidden : HideNoneLeft cell.block [] (log_of cell) stays

-- each log page that goes ends at the tail or before it
abbrev pub ArePublished : List Bool → ChainState → Type 0
ArePublished stays chain = (k : ℕ) → slice_index_or stays k true ≡ false → end_of chain k ≤ chain.tail

-- what flags of the log's entries leave of a cell, with this chain: the marks and blocks of the
-- entries that stay, in their order
abbrev pub left_in : List Bool → ChainState → CellState → CellState
left_in stays chain cell = record cell {
  chain = chain;
  marks = left_of (part_flags stays (log_of cell)) cell.marks;
  blocks = left_of (part_flags stays (log_of cell)) cell.blocks;
}

-- what the next entry has to follow stays, and what the inode tells of itself
pub record KeepsTheLast (old new : CellState) : Type 0 where
  -- the last entry is the same, past the tail too
  pub entry : last_entry new.chain ≡ last_entry old.chain
  -- kind, mode, size and last commit are the same
  pub stat : stat_now new.block (log_of new) ≡ stat_now old.block (log_of old)
  -- the inode is gone exactly where it was
  pub gone : is_gone (log_of new) ≡ is_gone (log_of old)
