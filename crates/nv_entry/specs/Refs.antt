-- The index by key: which part of which entry holds each key's value.
use Rattle.std.specs.Prelude.{◌≡◌, ℕ, ◌+◌, ◌-◌, ◌<◌, ◌↔◌, ◌&&◌, Bool, true, false, not, if◌then◌else◌, nat_lt, List, [], ◌∷◌, ◌++◌, filter, find, Option, Some, None, option_and_then, slice_get}
use Rattle.std.specs.List.{flat_map}
use Rattle.std.specs.Option.{option_map}
use Rattle.nv_base.specs.Ids.{is_same_id}
use Rattle.nv_base.specs.Names.{same_name}
use Rattle.nv_base.specs.declared.numbers.EntryId.{EntryId}
use Rattle.nv_entry.specs.declared.index.PageSource.{PageSource}
use Rattle.nv_entry.specs.declared.item.Entry.{Entry}
use Rattle.nv_entry.specs.declared.item.Item.{Item}
use Rattle.nv_entry.specs.declared.item.Item.TheVariants.{Init, Write, Bind}
use Rattle.nv_entry.specs.declared.key.Datum.{Datum}
use Rattle.nv_entry.specs.declared.key.Setting.{Setting}
use Rattle.nv_entry.specs.declared.key.Setting.TheVariants.{Untouched, Absent, Present}
use Rattle.nv_entry.specs.declared.part.Part.{Part}
use Rattle.nv_entry.specs.declared.part_ref.PartRef.{PartRef}
use Rattle.nv_entry.specs.Covered.{any_cover, is_covered, key_at, part_count, part_total}
use Rattle.nv_entry.specs.Index.{bound_name, last_cover, names_of, page_source, source_of}
use Rattle.nv_entry.specs.Keys.{Key, ModeKey, NameKey, PageKey, SizeKey, covers, key_of, name_of, parts_of, sets}
use Rattle.nv_entry.specs.Laws.{is_present}
use Rattle.nv_entry.specs.Log.{IsLog, value_now, value_of}

-- the place of a key among the parts of an item that sets it to a value
abbrev pub place_in : Item → Key → ℕ
place_in (Init kind mode) ModeKey = 1
place_in (Init kind mode) SizeKey = 2
place_in (Write first run size) (PageKey page) = page - first + 1
place_in item key = 0

-- the parts of an item and their keys have the same places
pub record IsPlaced (block : ℕ) (item : Item) : Type 0 where
  -- at the place of a key that the item sets to a value stands the part of that key
  pub at : (key : Key) → is_present (sets block item key) ≡ true
      → option_map (key_of item) (slice_get (parts_of item) (place_in item key)) ≡ Some key
  -- each part stands at the place of its key
  pub place : (n : ℕ) (part : Part) → slice_get (parts_of item) n ≡ Some part → place_in item (key_of item part) ≡ n

-- an entry's id with a place among its parts
abbrev pub part_ref : EntryId → ℕ → PartRef
part_ref entry place = record { entry = entry; place = place }

-- what a setting of a key leaves of the part that held it, where `own` is the setting's part
abbrev pub left_by : Setting → PartRef → Option PartRef → Option PartRef
left_by Untouched own before = before
left_by Absent own before = None
left_by (Present value) own before = Some own

-- the part that holds a key after an entry
abbrev pub ref_after : ℕ → Entry → Key → Option PartRef → Option PartRef
ref_after block e key before = left_by (sets block e.item key) (part_ref e.id (place_in e.item key)) before

-- the part that holds a key now, by one scan: the key's part of the last entry that covers the
-- key. There is none if that entry sets the key to absent, or if none covers it.
-- Example: in a log of the Init 1.1 and of the Write 3.0 of page 0, part 1 of 1.1 holds the mode,
-- and part 1 of 3.0 the page. Part 0 of a Write is its size.
abbrev pub scan_ref : ℕ → List Entry → Key → Option PartRef
scan_ref block log key = option_and_then (λ e. ref_after block e key None) (last_cover block log key)

-- the reference names a part of the key that no later entry covers
pub record IsCurrentPart (block : ℕ) (log : List Entry) (key : Key) (r : PartRef) : Type 0 where
  -- the entries before the part's entry
  pub before : List Entry
  -- the entry that has the part
  pub entry : Entry
  -- the entries behind it
  pub later : List Entry
  -- the part that is named
  pub part : Part
  -- the log is made of these entries
  pub log_is : log ≡ before ++ entry ∷ later
  -- the reference has the id of the part's entry
  pub id : entry.id ≡ r.entry
  -- the part stands at the reference's place among the parts of its entry
  pub place : slice_get (parts_of entry.item) r.place ≡ Some part
  -- the key is the part's
  pub key_is : key_of entry.item part ≡ key
  -- no later entry covers the key
  pub uncovered : any_cover block later key ≡ false

-- the part `n` of a log: the id of its entry, and its place there
abbrev pub ref_at : List Entry → ℕ → Option PartRef
ref_at [] n = None
ref_at (e ∷ later) n = if nat_lt n (part_count e) then Some (part_ref e.id n) else ref_at later (n - part_count e)

-- by number: a part holds its key exactly where no later entry covers it
abbrev pub UncoveredIsHeld : ℕ → List Entry → Type 0
UncoveredIsHeld block log =
    (n : ℕ) → n < part_total log → (is_covered block log n ≡ false) ↔ (scan_ref block log (key_at log n) ≡ ref_at log n)

-- the entry of that id
abbrev pub entry_with : EntryId → List Entry → Option Entry
entry_with id log = find (λ e. is_same_id e.id id) log

-- the value to which the entry of a part sets a key
abbrev pub value_in : ℕ → List Entry → Key → PartRef → Option Datum
value_in block log key r = option_and_then (λ e. value_of (sets block e.item key)) (entry_with r.entry log)

-- the source of a page by the part that holds it
abbrev pub source_in : ℕ → List Entry → ℕ → PartRef → Option PageSource
source_in block log page r = option_and_then (λ e. source_of e (sets block e.item (PageKey page))) (entry_with r.entry log)

-- the part that holds a key tells what the key has
pub record RefsGive (block : ℕ) (log : List Entry) : Type 0 where
  -- a key has the value to which the entry of its part sets it
  pub value : (key : Key) → value_now block log key ≡ option_and_then (value_in block log key) (scan_ref block log key)
  -- a page stands where the entry of its part puts it
  pub source : (page : ℕ) → page_source block log page ≡ option_and_then (source_in block log page) (scan_ref block log (PageKey page))

-- the item binds a name
abbrev pub is_bind : Item → Bool
is_bind (Bind name to) = true
is_bind item = false

-- the entries of the current bindings, in log order. The size of blocks
-- says nothing of names, so that 1 will do.
abbrev pub binders_of : List Entry → List Entry
binders_of [] = []
binders_of (e ∷ later) =
    if is_bind e.item && not (any_cover 1 later (NameKey (name_of e.item))) then e ∷ binders_of later else binders_of later

-- the current bindings after one more entry: a new one goes last
abbrev pub binders_after : Entry → List Entry → List Entry
binders_after e binders = filter (λ x. not (covers 1 e.item (NameKey (name_of x.item)))) binders ++ (if is_bind e.item then e ∷ [] else [])

-- what one more entry makes of the parts that hold keys
pub record OneMoreRef (block : ℕ) (log : List Entry) (e : Entry) : Type 0 where
  -- the entry holds the keys that it sets to a value, and frees those that it sets to absent
  pub part : (key : Key) → scan_ref block (log ++ e ∷ []) key ≡ ref_after block e key (scan_ref block log key)
  -- an entry that binds goes last; a binding goes out where the entry covers its name
  pub binders : binders_of (log ++ e ∷ []) ≡ binders_after e (binders_of log)

-- the entries of the current bindings tell the names
pub record NamesByIds (log : List Entry) : Type 0 where
  -- the names are those that these entries bind, in their order
  pub names : names_of log ≡ flat_map (λ e. bound_name e.item None) (binders_of log)
  -- a name is held by the first part of the entry that binds it
  pub parts : (block : ℕ) (name : List ℕ)
      → scan_ref block log (NameKey name) ≡ option_map (λ e. part_ref e.id 0) (find (λ e. same_name name (name_of e.item)) (binders_of log))
  -- along these entries ids rise and epochs never fall, where they do so along the log
  pub rising : IsLog log → IsLog (binders_of log)
