-- Where the blocks of a log's parts lie: each part of an entry has a part slot, except the first.
use Rattle.std.specs.Prelude.{ℕ, ◌+◌, ◌-◌, List, [], ◌∷◌, ◌++◌, take, drop, Option, None, Some, unwrap_or, slice_set}
use Rattle.std.specs.Option.{option_map}
use Rattle.nv_alloc.specs.Block.{BlockValue}
use Rattle.nv_entry.specs.declared.item.Entry.{Entry}
use Rattle.nv_entry.specs.declared.part_ref.PartRef.{PartRef}
use Rattle.nv_entry.specs.Covered.{part_count}
use Rattle.nv_entry.specs.Keys.{PageKey}
use Rattle.nv_log.specs.Chain.{place_of_id}
use Rattle.nv_cell.specs.Index.{IndexValue, ref_of}

-- how many part slots an entry has: one for each part except the first, which is no page. A part
-- slot has the part's block or none. An inode slot is another thing.
-- Example: Init, SetMode and a Write of two pages have 3, 1
-- and 3 parts, and 2, 0 and 2 part slots.
abbrev pub slot_count : Entry → ℕ
slot_count e = part_count e - 1

-- how many part slots the entries have together
abbrev pub slot_total : List Entry → ℕ
slot_total [] = 0
slot_total (e ∷ later) = slot_count e + slot_total later

-- how many part slots the first `t` entries have
abbrev pub slot_base : List Entry → ℕ → ℕ
slot_base es t = slot_total (take t es)

-- the block of each part of a log by its number, out of the part
-- slots: none for the first part of an entry
abbrev pub by_part : List Entry → List (Option BlockValue) → List (Option BlockValue)
by_part [] slots = []
by_part (e ∷ later) slots = take (part_count e) (None ∷ slots) ++ by_part later (drop (slot_count e) slots)

-- the slots once one of them, if any, is emptied
abbrev pub emptied : List (Option BlockValue) → Option ℕ → List (Option BlockValue)
emptied slots None = slots
emptied slots (Some k) = slice_set slots k None

-- the part slot of a part that is not the first of its entry
abbrev pub slot : List Entry → PartRef → ℕ
slot es r = slot_base es (unwrap_or (place_of_id es r.entry) 0) + (r.place - 1)

-- the part slot of the part that an index names at a page
abbrev pub page_slot : List Entry → IndexValue → ℕ → Option ℕ
page_slot es index page = option_map (slot es) (ref_of index (PageKey page))
