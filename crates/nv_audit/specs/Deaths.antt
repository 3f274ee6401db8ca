-- When the parts of a log died, by a table of what later entries cover.
use Rattle.std.specs.Prelude.{◌≡◌, ℕ, if◌then◌else◌, List, Option, Some, map, option_and_then, slice_get}
use Rattle.std.specs.Option.{option_map, option_or}
use Rattle.nv_base.specs.declared.numbers.EntryId.{EntryId}
use Rattle.nv_cell.specs.Cell.{CellState, log_of}
use Rattle.nv_entry.specs.Keys.{Key, KindKey, ModeKey, NameKey, PageKey, SizeKey, covers, key_of, parts_of}
use Rattle.nv_entry.specs.Log.{pairs}
use Rattle.nv_entry.specs.declared.held.Pair.{Pair}
use Rattle.nv_entry.specs.declared.item.Entry.{Entry}
use Rattle.nv_entry.specs.declared.item.Item.{Item}
use Rattle.nv_entry.specs.declared.item.Item.TheVariants.{Gone}
use Rattle.nv_entry.specs.declared.part.Part.{Part}
use Rattle.nv_findex.specs.Pages.{PageMap, ref_at}
use Rattle.nv_findex.specs.declared.page_ref.PageRef.{PageRef}
use Rattle.nv_log.specs.Chain.{place_of_id}
use Rattle.nv_audit.specs.Names.{name_in}
use Rattle.nv_audit.specs.declared.first_covers.FirstCovers.{FirstCovers}

-- when each part of a log died, by number
abbrev pub deaths_in : ℕ → List Entry → List (Option ℕ)
deaths_in block log = map (λ (p : Pair). p.death) (pairs block log)

-- WHEN EACH PART of a cell's log died, by number: the epoch of the first later entry that covers
-- its key, if any does.
-- Example: where `Write(block 2)` of epoch 1 is overwritten in epoch 2, its page has the death 2,
-- and the page of the second write has none.
abbrev pub deaths_of : CellState → List (Option ℕ)
deaths_of cell = deaths_in cell.block (log_of cell)

-- the epoch of the entry of that id in a log
abbrev pub epoch_of : List Entry → EntryId → Option ℕ
epoch_of log id = option_map (λ (e : Entry). e.epoch) (option_and_then (slice_get log) (place_of_id log id))

-- ---- the first of some entries that covers a key, by a table

-- the epoch of the first entry that covers a name, by a table
abbrev pub name_cover : FirstCovers → List ℕ → Option ℕ
name_cover c name = option_or (name_in c.names.entries name) c.others

-- the id of the first entry that covers a page, by a table
abbrev pub page_cover : PageMap → ℕ → Option EntryId
page_cover index page = option_map (λ (at : PageRef). at.entry) (ref_at index.pages page)

-- the epoch of the first entry that covers a key, by the table of a log
abbrev pub cover_in : List Entry → FirstCovers → Key → Option ℕ
cover_in log c KindKey = c.kind
cover_in log c ModeKey = c.mode
cover_in log c SizeKey = c.size
cover_in log c (NameKey name) = name_cover c name
cover_in log c (PageKey page) = option_and_then (epoch_of log) (page_cover c.pages page)

-- the epoch of the first entry to cover a key, with one more in front; `later` is that of the rest
abbrev pub cover_before : ℕ → Entry → Key → Option ℕ → Option ℕ
cover_before block e key later = if covers block e.item key then Some e.epoch else later

-- the epoch of the first entry to cover all names, with one more in front; `later` is of the rest
abbrev pub others_after : Entry → Option ℕ → Option ℕ
others_after e later = by_item e.item where
  by_item : Item → Option ℕ
  by_item Gone = Some e.epoch
  by_item item = later

-- the id of the first entry to cover a page, with one more in front; `later` is that of the rest
abbrev pub page_cover_before : ℕ → Entry → ℕ → Option EntryId → Option EntryId
page_cover_before block e page later = if covers block e.item (PageKey page) then Some e.id else later

-- a table gets one more entry, which stands before the others
pub record Puts (block : ℕ) (e : Entry) (old new : FirstCovers) : Type 0 where
  -- the entry is the first to cover the kind, if it does; else the first one stays
  pub kind : new.kind ≡ cover_before block e KindKey old.kind
  -- the entry is the first to cover the mode, if it does; else the first one stays
  pub mode : new.mode ≡ cover_before block e ModeKey old.mode
  -- the entry is the first to cover the size, if it does; else the first one stays
  pub size : new.size ≡ cover_before block e SizeKey old.size
  -- the entry is the first to cover a name, if it does; else the first one stays
  pub names : (name : List ℕ) → name_cover new name ≡ cover_before block e (NameKey name) (name_cover old name)
  -- the entry is the first to cover a page, if it does; else the first one stays
  pub pages : (page : ℕ) → page_cover new.pages page ≡ page_cover_before block e page (page_cover old.pages page)

-- the epochs of the first later entries that cover the keys of an entry's parts, by a table
abbrev pub covers_of : List Entry → FirstCovers → Entry → List (Option ℕ)
covers_of log c e = map (λ (part : Part). cover_in log c (key_of e.item part)) (parts_of e.item)
