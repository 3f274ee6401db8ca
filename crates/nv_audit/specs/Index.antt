-- An index that is the scan of a log.
use Rattle.std.specs.Prelude.{◌≡◌, ℕ, List, Option, None, Some, max, min}
use Rattle.std.specs.Option.{option_map}
use Rattle.nv_entry.specs.declared.item.Entry.{Entry}
use Rattle.nv_entry.specs.Keys.{PageKey}
use Rattle.nv_entry.specs.Refs.{scan_ref}
use Rattle.nv_findex.specs.Pages.{PageMap, ref_at, run_ref}
use Rattle.nv_findex.specs.declared.page_ref.PageRef.{PageRef}
use Rattle.nv_findex.specs.declared.page_run.PageRun.{PageRun}
use Rattle.nv_cell.specs.Index.{page_part}

-- the index names the part of the log that holds the page now
abbrev pub IsPageOf : ℕ → List Entry → PageMap → ℕ → Type 0
IsPageOf block log index page = option_map page_part (ref_at index.pages page) ≡ scan_ref block log (PageKey page)

-- the index names for each page the part of the log that holds the page now, if any does
abbrev pub ArePagesOf : ℕ → List Entry → PageMap → Type 0
ArePagesOf block log index = (page : ℕ) → IsPageOf block log index page

-- each page lies in both at the same place, or in neither
abbrev pub HaveSamePages : PageMap → PageMap → Type 0
HaveSamePages one other = (page : ℕ) → ref_at one.pages page ≡ ref_at other.pages page

-- the first page of a run that is not below `page`, and where it lies
abbrev pub first_from : ℕ → PageRun → ℕ × PageRef
first_from page r = (max r.first page, run_ref r (max r.first page))

-- where the first of two runs ends
abbrev pub both_end : Option PageRun → Option PageRun → Option ℕ
both_end (Some r) (Some s) = Some (min r.end s.end)
both_end r s = None
