-- The present pages of a file, and where each lies.
use Rattle.std.specs.Prelude.{◌≡◌, ℕ, zero, suc, ◌+◌, ◌-◌, ◌<◌, ◌≤◌, ◌==◌, ◌&&◌, Bool, false, not, nat_le, nat_lt, if◌then◌else◌, List, [], ◌∷◌, Option, Some, None, is_some}
use Rattle.nv_base.specs.Ids.{is_same_id}
use Rattle.nv_base.specs.declared.limits.TheConstants.{FILE_PAGES}
use Rattle.nv_base.specs.declared.numbers.EntryId.{EntryId}
use Rattle.nv_findex.specs.declared.page_ref.PageRef.{PageRef}
use Rattle.nv_findex.specs.declared.page_run.PageRun.{PageRun}

-- where a page of the run lies
abbrev pub run_ref : PageRun → ℕ → PageRef
run_ref r page = record { entry = r.start.entry; place = r.start.place + (page - r.first) }

-- where a page lies, if the first run that ends behind it has it
unfoldable pub ref_at : List PageRun → ℕ → Option PageRef
ref_at [] page = None
ref_at (r ∷ rs) page = if nat_lt page r.end then (if nat_le r.first page then Some (run_ref r page) else None) else ref_at rs page

-- what contracts see of a file index. All except that of `new` speak of it by `ref_at` alone.
pub record PageMap : Type 0 where
  -- the runs of the pages that are present
  pub pages : List PageRun
  -- for how many more runs there is room
  pub room : ℕ

-- the pages from `first` on, `len` of them, lie in the entry from its
-- place 0 on, and all others where they lay
abbrev pub SetsRun : ℕ → ℕ → EntryId → (ℕ → Option PageRef) → (ℕ → Option PageRef) → Type 0
SetsRun first len entry old new =
    (page : ℕ) → new page
    ≡ (if nat_le first page && nat_lt page (first + len) then Some (record { entry = entry; place = page - first }) else old page)

-- the pages below `from` lie where they lay, and no other page is present
abbrev pub CutsFrom : ℕ → (ℕ → Option PageRef) → (ℕ → Option PageRef) → Type 0
CutsFrom from old new = (page : ℕ) → new page ≡ (if nat_lt page from then old page else None)

-- the least present page that is not below `from`, with where it lies; none where there is none
abbrev pub IsNextFrom : ℕ → (ℕ → Option PageRef) → Option (ℕ × PageRef) → Type 0
IsNextFrom from pages None = (page : ℕ) → from ≤ page → pages page ≡ None
IsNextFrom from pages (Some found) =
    (from ≤ found.0) × (pages found.0 ≡ Some found.1) × ((page : ℕ) → from ≤ page → page < found.0 → pages page ≡ None)

-- present pages, and the places that they lie at, are below the most pages of a file
abbrev pub AreWithin : (ℕ → Option PageRef) → Type 0
AreWithin pages = (page : ℕ) (at : PageRef) → pages page ≡ Some at → (page < FILE_PAGES) × (at.place < FILE_PAGES)

-- what lies at b follows in one entry on what lies at a
abbrev pub is_followed : Option PageRef → Option PageRef → Bool
is_followed None b = false
is_followed (Some a) None = false
is_followed (Some a) (Some b) = is_same_id a.entry b.entry && (a.place + 1 == b.place)

-- the page behind follows in one entry on this one
abbrev pub goes_on_at : (ℕ → Option PageRef) → ℕ → Bool
goes_on_at pages page = is_followed (pages page) (pages (page + 1))

-- a present page ends a run if the page behind it does not follow on it
abbrev pub ends_run : (ℕ → Option PageRef) → ℕ → Bool
ends_run pages page = is_some (pages page) && not (goes_on_at pages page)

-- how many of the n pages from `from` on pass the test
unfoldable pub how_many : (ℕ → Bool) → ℕ → ℕ → ℕ
how_many test from zero = 0
how_many test from (suc n) = (if test from then 1 else 0) + how_many test (from + 1) n

-- how many runs the pages make: each has one page that ends it
abbrev pub run_count_of : List PageRun → ℕ
run_count_of pages = how_many (ends_run (ref_at pages)) 0 FILE_PAGES

-- how many pages are present from `from` on
abbrev pub present_from : ℕ → List PageRun → ℕ
present_from from pages = how_many (λ page. is_some (ref_at pages page)) from (FILE_PAGES - from)

-- what holds of each run of pages
pub record IsRun (r : PageRun) : Type 0 where
  -- the run has a page
  pub some : r.first < r.end
  -- its pages are below the most pages of a file
  pub within : r.end ≤ FILE_PAGES
  -- the places that its pages lie at are below the most pages of a file
  pub places : r.start.place + (r.end - r.first) ≤ FILE_PAGES

-- all of a run of these pages, which could be longer on neither side
pub record IsRunOf (at : ℕ → Option PageRef) (r : PageRun) : Type 0 where
  -- the run has a page
  pub some : r.first < r.end
  -- each of its pages lies where the run says
  pub pages : (page : ℕ) → r.first ≤ page → page < r.end → at page ≡ Some (run_ref r page)
  -- the page before its first one, if any, does not go on in the run
  pub begins : (page : ℕ) → page + 1 ≡ r.first → goes_on_at at page ≡ false
  -- its last page does not go on in the page behind it
  pub ends : (page : ℕ) → page + 1 ≡ r.end → goes_on_at at page ≡ false

-- the run that has the page `from`, or else the first one behind it
abbrev pub IsRunFrom : ℕ → (ℕ → Option PageRef) → Option PageRun → Type 0
IsRunFrom from pages None = (page : ℕ) → from ≤ page → pages page ≡ None
IsRunFrom from pages (Some r) = IsRunOf pages r × (from < r.end) × ((page : ℕ) → from ≤ page → page < r.first → pages page ≡ None)
