-- Which entries a cleaner may remove, and what its walks leave.
use Rattle.std.specs.Prelude.{◌≡◌, ℕ, ◌+◌, ◌<◌, ◌&&◌, Bool, true, false, not, if◌then◌else◌, nat_lt, max, min, List, [], ◌∷◌, ◌++◌, length, take, drop}
use Rattle.std.specs.List.{list_any, flat_map}
use Rattle.nv_base.specs.declared.limits.TheConstants.{FILE_PAGES}
use Rattle.nv_entry.specs.declared.item.Entry.{Entry}
use Rattle.nv_entry.specs.declared.item.Item.{Item}
use Rattle.nv_entry.specs.declared.item.Item.TheVariants.{Init, Write, SetSize, SetMode, Bind, Unbind, Gone}
use Rattle.nv_entry.specs.declared.key.Setting.TheVariants.{Absent}
use Rattle.nv_entry.specs.Counts.{is_entry_kept}
use Rattle.nv_entry.specs.Held.{Retention}
use Rattle.nv_entry.specs.Keys.{Key, NameKey, sets, covers, pages_for}

-- a cleaner may remove an entry; `before` are the earlier entries that are still there
pub record IsDroppable (r : Retention) (before : List Entry) (e : Entry) (later : List Entry) : Type 0 where
  -- the entry is not the last of its log
  pub not_last : 0 < length later
  -- none of its pairs is needed or pending
  pub unneeded : is_entry_kept r e later ≡ false
  -- no earlier entry covers a key that it sets to absent
  pub hides_nothing : (key : Key) → sets r.block e.item key ≡ Absent → list_any (λ earlier. covers r.block earlier.item key) before ≡ false

-- the item covers a page that a file can have, from this one on
abbrev pub covers_from : ℕ → ℕ → Item → Bool
covers_from block page (Init kind mode) = false
covers_from block page (Write first run size) = nat_lt (max page first) (min (first + run.len) FILE_PAGES)
covers_from block page (SetSize size) = nat_lt (max page (pages_for block size)) FILE_PAGES
covers_from block page (SetMode mode) = false
covers_from block page (Bind name to) = false
covers_from block page (Unbind name) = false
covers_from block page Gone = nat_lt page FILE_PAGES

-- the item sets a key to absent that an earlier item covers
abbrev pub hides : ℕ → Item → Item → Bool
hides block (Init kind mode) earlier = false
hides block (Write first run size) earlier = false
hides block (SetSize size) earlier = covers_from block (pages_for block size) earlier
hides block (SetMode mode) earlier = false
hides block (Bind name to) earlier = false
hides block (Unbind name) earlier = covers block earlier (NameKey name)
hides block Gone earlier = true

-- the log has no entry
abbrev pub is_empty : List Entry → Bool
is_empty [] = true
is_empty (e ∷ log) = false

-- the test of `IsDroppable`
abbrev pub is_droppable : Retention → List Entry → Entry → List Entry → Bool
is_droppable r before e later =
    not (is_empty later) && not (is_entry_kept r e later) && not (list_any (λ earlier. hides r.block e.item earlier.item) before)

-- the elements of a list that flags mark as staying
abbrev pub select : {X : Type 0} → List Bool → List X → List X
select [] xs = []
select (stays ∷ flags) [] = []
select (stays ∷ flags) (x ∷ xs) = if stays then x ∷ select flags xs else select flags xs

-- for each of the entries to come whether it stays, by a walk from the head that takes out each
-- droppable one; `kept` are the earlier ones that stay
abbrev pub entries_stay : Retention → List Entry → List Entry → List Bool
entries_stay r kept [] = []
entries_stay r kept (e ∷ later) =
    if is_droppable r kept e later
    then false ∷ entries_stay r kept later
    else true ∷ entries_stay r (kept ++ e ∷ []) later

-- what thorough cleaning leaves of a log: all entries except those that its walk takes out
abbrev pub thorough_leaves : Retention → List Entry → List Entry
thorough_leaves r log = select (entries_stay r [] log) log

-- the entries of pages, in order
abbrev pub entries_of : List (List Entry) → List Entry
entries_of pages = flat_map (λ page. page) pages

-- a log cut into pages, by how many entries each has
abbrev pub pages_by : List ℕ → List Entry → List (List Entry)
pages_by [] log = []
pages_by (count ∷ counts) log = take count log ∷ pages_by counts (drop count log)

-- each entry of a page may go, those before it in the page tried as removed
abbrev pub all_go : Retention → List Entry → List Entry → List Entry → Bool
all_go r kept [] later = true
all_go r kept (e ∷ page) later = is_droppable r kept e (page ++ later) && all_go r kept page later

-- a page with entries goes where each of them may go
abbrev pub page_goes : Retention → List Entry → List Entry → List Entry → Bool
page_goes r kept page later = not (is_empty page) && all_go r kept page later

-- which of the pages to come stay, by a walk by whole pages; `kept` are the earlier entries left
abbrev pub pages_stay : Retention → List Entry → List (List Entry) → List Bool
pages_stay r kept [] = []
pages_stay r kept (page ∷ pages) =
    if page_goes r kept page (entries_of pages)
    then false ∷ pages_stay r kept pages
    else true ∷ pages_stay r (kept ++ page) pages

-- the log pages that fast cleaning leaves. A page goes only where each of its entries may go,
-- those before it in the page tried as removed. A page without entries stays.
abbrev pub pages_left : Retention → List (List Entry) → List (List Entry)
pages_left r pages = select (pages_stay r [] pages) pages
