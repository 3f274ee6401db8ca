-- Which blocks the parts of a log are to have, and how they get them out of the free lists.
use Rattle.std.specs.Prelude.{◌≡◌, ℕ, ◌+◌, ◌-◌, ◌≤◌, if◌then◌else◌, List, [], ◌++◌, ◌∷◌, map, Option, None, option_and_then, option_to_list}
use Rattle.std.specs.List.{flat_map, range_with_len}
use Rattle.nv_alloc.specs.Block.{BlockValue, block_by}
use Rattle.nv_alloc.specs.FreeList.{AreListsOf, FreeBlocks, free_blocks}
use Rattle.nv_alloc.specs.Numbers.{has, times}
use Rattle.nv_base.specs.declared.geometry.GeometryNumbers.{GeometryNumbers}
use Rattle.nv_entry.specs.declared.item.Entry.{Entry}
use Rattle.nv_entry.specs.Covered.{part_count}
use Rattle.nv_cell.specs.Cell.{page_block}
use Rattle.nv_cell.specs.Marks.{is_there, mark_at}
use Rattle.nv_cell.specs.declared.mark.Mark.{Mark}

-- the number of the block that a part is to have; none where it is out, or no page. The part
-- stands at that place of an entry whose first part has the number `first`.
abbrev pub part_wants : ℕ → List Mark → ℕ → Entry → ℕ → Option ℕ
part_wants block marks first entry place =
    if is_there (mark_at marks (first + place)) then page_block block (entry ∷ []) place else None

-- what the parts of an entry want, for each of them except the first
abbrev pub entry_wants : ℕ → List Mark → ℕ → Entry → List (Option ℕ)
entry_wants block marks first entry = map (part_wants block marks first entry) (range_with_len 1 (part_count entry - 1))

-- what the parts of a log want, entry by entry
abbrev pub log_wants : ℕ → List Mark → ℕ → List Entry → List (Option ℕ)
log_wants block marks first [] = []
log_wants block marks first (entry ∷ later) =
    entry_wants block marks first entry ++ log_wants block marks (first + part_count entry) later

-- the block numbers that are wanted
abbrev pub numbers_wanted : List (Option ℕ) → List ℕ
numbers_wanted wants = flat_map option_to_list wants

-- no block is wanted twice
abbrev pub AreOnce : List (Option ℕ) → Type 0
AreOnce wants = (n : ℕ) → times n (numbers_wanted wants) ≤ 1

-- the block that is wanted, if one is, and if it is free
abbrev pub taken_from : List FreeBlocks → Option ℕ → Option BlockValue
taken_from lists wanted = option_and_then (block_by (free_blocks lists)) wanted

-- what was wanted has left the free lists
pub record AreTaken (g : GeometryNumbers) (wants : List (Option ℕ)) (old new : List FreeBlocks) : Type 0 where
  -- the lists are those of the device still
  pub homes : AreListsOf g new
  -- what was wanted is free no more, and each other block is free exactly if it was
  pub each : (n : ℕ) → block_by (free_blocks new) n ≡ (if has (numbers_wanted wants) n then None else block_by (free_blocks old) n)

-- slots have got what was wanted out of the free lists
pub record AreGiven (g : GeometryNumbers) (wants : List (Option ℕ)) (old new : List FreeBlocks) (before after : List (Option BlockValue))
    : Type 0 where
  -- behind the slots of before stands for each want its block, if that was free, or none
  pub slots : after ≡ before ++ map (taken_from old) wants
  -- what was wanted has left the free lists
  pub lists : AreTaken g wants old new
