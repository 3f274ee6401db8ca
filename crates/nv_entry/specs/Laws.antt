-- What one more entry does to what a log says, and what cleaning leaves of it.
use Rattle.std.specs.Prelude.{◌≡◌, ℕ, ◌+◌, ◌<◌, Bool, true, false, if◌then◌else◌, filter, length, map, slice_get, List, [], ◌∷◌, ◌++◌, Option, Some, None}
use Rattle.std.specs.Option.{option_or}
use Rattle.std.specs.List.{AllByRecursion}
use Rattle.nv_entry.specs.declared.held.Pair.{Pair}
use Rattle.nv_entry.specs.declared.index.PageSource.{PageSource}
use Rattle.nv_entry.specs.declared.item.Entry.{Entry}
use Rattle.nv_entry.specs.declared.item.Item.{Item}
use Rattle.nv_entry.specs.declared.key.Datum.{Datum}
use Rattle.nv_entry.specs.declared.key.Setting.{Setting}
use Rattle.nv_entry.specs.declared.key.Setting.TheVariants.{Untouched, Absent, Present}
use Rattle.nv_entry.specs.declared.part.PartId.{PartId}
use Rattle.nv_entry.specs.declared.part.Part.{Part}
use Rattle.nv_entry.specs.declared.part.Part.TheVariants as part
use Rattle.nv_entry.specs.Clean.{IsDroppable, entries_of, entries_stay, thorough_leaves, pages_left, pages_stay}
use Rattle.nv_entry.specs.Held.{Retention, holds, is_current, is_named, keeps, pair_name}
use Rattle.nv_entry.specs.Index.{source_of, page_source, names_of, names_after}
use Rattle.nv_entry.specs.Keys.{Key, PageKey, sets, covers, key_of, parts_of}
use Rattle.nv_entry.specs.Log.{value_now, value_at, first_cover, pairs, up_to}
use Rattle.nv_entry.specs.Node.{node_now}

-- what a setting leaves of a value
abbrev pub value_after : Setting → Option Datum → Option Datum
value_after Untouched before = before
value_after Absent before = None
value_after (Present value) before = Some value

-- what a setting of a page by an entry leaves of its source
abbrev pub source_after : Entry → Setting → Option PageSource → Option PageSource
source_after e Untouched before = before
source_after e Absent before = None
source_after e (Present value) before = source_of e (Present value)

-- what one more entry makes of what a log says
pub record OneMore (block : ℕ) (log : List Entry) (e : Entry) : Type 0 where
  -- a key has the value that the entry sets, and none where it sets absent; else that of before
  pub value : (key : Key) → value_now block (log ++ e ∷ []) key ≡ value_after (sets block e.item key) (value_now block log key)
  -- no value changes at an epoch before the entry's
  pub earlier : (epoch : ℕ) (key : Key) → epoch < e.epoch → value_at block epoch (log ++ e ∷ []) key ≡ value_at block epoch log key
  -- a key is first covered when it was; else in the entry's epoch, if the entry covers it
  pub death : (key : Key) → first_cover block (log ++ e ∷ []) key
      ≡ option_or (first_cover block log key) (if covers block e.item key then Some e.epoch else None)
  -- a page stands where the entry puts it, and nowhere where it sets absent; else where it stood
  pub source : (page : ℕ)
      → page_source block (log ++ e ∷ []) page ≡ source_after e (sets block e.item (PageKey page)) (page_source block log page)
  -- the names are those of before, as the entry's item changes them
  pub names : names_of (log ++ e ∷ []) ≡ names_after e.item (names_of log)

-- two logs read the same now
pub record ReadsSame (block : ℕ) (old new : List Entry) : Type 0 where
  -- each key has the same value
  pub value : (key : Key) → value_now block new key ≡ value_now block old key
  -- each page stands in the same entry and block
  pub source : (page : ℕ) → page_source block new page ≡ page_source block old page
  -- the same names are bound, in the same order
  pub names : names_of new ≡ names_of old
  -- the node is the same, whatever bytes the blocks have
  pub node : (bytes : ℕ → List ℕ) → node_now bytes block new ≡ node_now bytes block old

-- two logs read the same at an epoch
abbrev pub ReadsSameAt : ℕ → ℕ → List Entry → List Entry → Type 0
ReadsSameAt block epoch old new = ReadsSame block (up_to epoch old) (up_to epoch new)

-- each pair of the log that lives at the epoch is needed or pending
abbrev pub SpansAreKept : Retention → ℕ → List Entry → Type 0
SpansAreKept r epoch log = AllByRecursion (λ pair. holds epoch pair ≡ true → keeps r pair ≡ true) (pairs r.block log)

-- the pairs of a log that pass a test, by name and in log order
abbrev pub pairs_where : (Pair → Bool) → ℕ → List Entry → List PartId
pairs_where test block log = map pair_name (filter test (pairs block log))

-- what cleaning keeps: what is read of a log, and its pairs by
-- name and in order, though deaths may move.
-- Example (the tombstone): Init, Bind a, Unbind a, Bind b, with a snapshot that holds the binding
-- of `a`. The Unbind has no pair. It can't go while Bind a stays, since `a` would be back. Once
-- the snapshot is dropped and its record released, the walk removes Bind a and then Unbind a.
-- Example (a killer is cleaned away): a page is written in epochs 1, 2 and 3, and only snapshot 1
-- lives. The second write may go, since it has died and snapshot 1 does not hold it. Without it
-- the first write dies in epoch 3 and no longer in 2, and yet no living snapshot lies between.
pub record KeepsReads (r : Retention) (old new : List Entry) : Type 0 where
  -- what is read now stays
  pub now : ReadsSame r.block old new
  -- what is read at an epoch stays, where each pair that lives at it is needed or pending
  pub kept : (epoch : ℕ) → SpansAreKept r epoch old → ReadsSameAt r.block epoch old new
  -- what is read at each living snapshot stays
  pub held : AllByRecursion (λ snapshot. ReadsSameAt r.block snapshot old new) r.snapshots
  -- the current pairs stay
  pub current : pairs_where is_current r.block new ≡ pairs_where is_current r.block old
  -- the pending pairs stay
  pub pending : pairs_where (is_named r.pending) r.block new ≡ pairs_where (is_named r.pending) r.block old
  -- the pairs that a living snapshot holds stay
  pub holders : AllByRecursion (λ snapshot. pairs_where (holds snapshot) r.block new ≡ pairs_where (holds snapshot) r.block old) r.snapshots

-- none of the entries to come is droppable, where `before` are those before them
abbrev pub NoneDroppable : Retention → List Entry → List Entry → Type 0
NoneDroppable r before [] = Unit {0}
NoneDroppable r before (e ∷ later) = (IsDroppable r before e later → ⊥) × NoneDroppable r (before ++ e ∷ []) later

-- of the entries to come exactly the droppable ones go, with the earlier removals made
abbrev pub GoIfDroppable : Retention → List Entry → List Entry → List Bool → Type 0
GoIfDroppable r kept [] [] = Unit {0}
GoIfDroppable r kept [] (stays ∷ flags) = ⊥
GoIfDroppable r kept (e ∷ later) [] = ⊥
GoIfDroppable r kept (e ∷ later) (true ∷ flags) = (IsDroppable r kept e later → ⊥) × GoIfDroppable r (kept ++ e ∷ []) later flags
GoIfDroppable r kept (e ∷ later) (false ∷ flags) = IsDroppable r kept e later × GoIfDroppable r kept later flags

-- what thorough cleaning makes of a log
pub record IsThorough (r : Retention) (log : List Entry) : Type 0 where
  -- exactly those entries go that are droppable, with the earlier removals made
  pub goes : GoIfDroppable r [] log (entries_stay r [] log)
  -- no entry that is left is droppable
  pub none_left : NoneDroppable r [] (thorough_leaves r log)
  -- what is left reads as the log did
  pub keeps : KeepsReads r log (thorough_leaves r log)

-- each entry of a page is droppable, with those before it in the page removed
abbrev pub AllDroppable : Retention → List Entry → List Entry → List Entry → Type 0
AllDroppable r kept [] later = Unit {0}
AllDroppable r kept (e ∷ page) later = IsDroppable r kept e (page ++ later) × AllDroppable r kept page later

-- a log page is droppable throughout
pub record IsPageDroppable (r : Retention) (kept page later : List Entry) : Type 0 where
  -- the page has an entry
  pub has_entries : 0 < length page
  -- each of its entries is droppable, with those before it in the page removed
  pub all : AllDroppable r kept page later

-- of the pages to come exactly those go that are droppable throughout, with the earlier pages gone
abbrev pub GoIfPageDroppable : Retention → List Entry → List (List Entry) → List Bool → Type 0
GoIfPageDroppable r kept [] [] = Unit {0}
GoIfPageDroppable r kept [] (stays ∷ flags) = ⊥
GoIfPageDroppable r kept (page ∷ pages) [] = ⊥
GoIfPageDroppable r kept (page ∷ pages) (true ∷ flags) =
    (IsPageDroppable r kept page (entries_of pages) → ⊥) × GoIfPageDroppable r (kept ++ page) pages flags
GoIfPageDroppable r kept (page ∷ pages) (false ∷ flags) =
    IsPageDroppable r kept page (entries_of pages) × GoIfPageDroppable r kept pages flags

-- what fast cleaning makes of the log pages of a log
pub record IsFast (r : Retention) (pages : List (List Entry)) : Type 0 where
  -- exactly those pages go that are droppable throughout, with the earlier pages gone
  pub goes : GoIfPageDroppable r [] pages (pages_stay r [] pages)
  -- what is left reads as the log did
  pub keeps : KeepsReads r (entries_of pages) (entries_of (pages_left r pages))

-- the setting is to a value
abbrev pub is_present : Setting → Bool
is_present Untouched = false
is_present Absent = false
is_present (Present value) = true

-- each part of an item is a key that it sets to a value
abbrev pub PartsAreSet : ℕ → Item → Type 0
PartsAreSet block item = AllByRecursion (λ part. is_present (sets block item (key_of item part)) ≡ true) (parts_of item)

-- a key is that of one of an item's parts
pub record IsKeyOfPart (item : Item) (key : Key) : Type 0 where
  -- the place of the part among the item's parts, from 0
  pub place : ℕ
  -- the part whose key it is
  pub part : Part
  -- the part stands at that place
  pub at : slice_get (parts_of item) place ≡ Some part
  -- the key is the part's
  pub key_is : key_of item part ≡ key

-- each key that an item sets to a value is that of one of its parts
abbrev pub SetsAreParts : ℕ → Item → Type 0
SetsAreParts block item = (key : Key) → is_present (sets block item key) ≡ true → IsKeyOfPart item key

-- where a part stands among others: kind, mode, size and bound name, and then pages rising
abbrev pub part_rank : Part → ℕ
part_rank part.Kind = 0
part_rank part.Mode = 1
part_rank part.Size = 2
part_rank part.Bound = 3
part_rank (part.Page page) = 4 + page

-- each part ranks below those behind it
abbrev pub PartsRise : List Part → Type 0
PartsRise [] = Unit {0}
PartsRise (p ∷ later) = AllByRecursion (λ q. part_rank p < part_rank q) later × PartsRise later
