-- How much room items need to be published: for the parts that they kill, and for runs of pages.
use Rattle.std.specs.Prelude.{ℕ, ◌+◌, ◌-◌, ◌*◌, List, [], ◌∷◌, length, is_some}
use Rattle.std.specs.List.{sum_by}
use Rattle.nv_base.specs.declared.limits.TheConstants.{FILE_PAGES}
use Rattle.nv_entry.specs.declared.item.Entry.{Entry}
use Rattle.nv_entry.specs.declared.item.Item.{Item}
use Rattle.nv_entry.specs.declared.item.Item.TheVariants.{Init, Write, SetSize, SetMode, Bind, Unbind, Gone}
use Rattle.nv_entry.specs.Index.{names_of}
use Rattle.nv_entry.specs.Keys.{PageKey, pages_for, parts_of}
use Rattle.nv_entry.specs.Refs.{scan_ref}
use Rattle.nv_findex.specs.Pages.{how_many, present_from, ref_at}
use Rattle.nv_cell.specs.Index.{IndexValue}

-- how many pages an item adds at most
abbrev pub pages_added : Item → ℕ
pages_added (Write first run size) = run.len
pages_added item = 0

-- how many names an item adds at most
abbrev pub names_added : Item → ℕ
names_added (Bind name to) = 1
names_added item = 0

-- how many page runs an item adds at most
abbrev pub page_runs_needed : Item → ℕ
page_runs_needed (Write first run size) = 2
page_runs_needed item = 0

-- how many parts entries with these items have
abbrev pub parts_in : List Item → ℕ
parts_in items = sum_by (λ item. length (parts_of item)) items

-- the weight of an item: how many parts it kills at most. `pages` gives how many pages are present
-- from each one on, and `names` is how many names are bound.
abbrev pub weight : ℕ → (ℕ → ℕ) → ℕ → Item → ℕ
weight block pages names (Init kind mode) = 3
weight block pages names (Write first run size) = 1 + run.len
weight block pages names (SetSize size) = 1 + pages (pages_for block size)
weight block pages names (SetMode mode) = 1
weight block pages names (Bind name to) = 1
weight block pages names (Unbind name) = 1
weight block pages names Gone = 3 + pages 0 + names

-- the weight of several items, one behind the other, each behind what those before it add.
-- Example: with pages 0 to 9 present, a Write of 3 pages weighs 4,
-- and a cut to 8 pages behind it 1 + 2 + 3.
abbrev pub weights : ℕ → (ℕ → ℕ) → ℕ → List Item → ℕ
weights block pages names [] = 0
weights block pages names (item ∷ later) =
    weight block pages names item + weights block (λ from. pages from + pages_added item) (names + names_added item) later

-- how many pages are present in a log from the page `from` on
abbrev pub present_in : ℕ → List Entry → ℕ → ℕ
present_in block log from = how_many (λ page. is_some (scan_ref block log (PageKey page))) from (FILE_PAGES - from)

-- the weight of several items behind a log
abbrev pub weights_in : ℕ → List Entry → List Item → ℕ
weights_in block log items = weights block (present_in block log) (length (names_of log)) items

-- how many parts are current in a log at most: kind, mode and size, its pages and its names
abbrev pub current_in : ℕ → List Entry → ℕ
current_in block log = 3 + present_in block log 0 + length (names_of log)

-- how many parts an item sets at most
abbrev pub parts_set : Item → ℕ
parts_set (Init kind mode) = 3
parts_set (Write first run size) = 1 + run.len
parts_set (SetSize size) = 1
parts_set (SetMode mode) = 1
parts_set (Bind name to) = 1
parts_set (Unbind name) = 0
parts_set Gone = 0

-- 1 for a cut, an Unbind or a Gone, which take out what others set, else 0
abbrev pub takes_out : Item → ℕ
takes_out (SetSize size) = 1
takes_out (Unbind name) = 1
takes_out Gone = 1
takes_out item = 0

-- a bound of what items weigh: as many parts as they set, and for each that takes parts out as
-- many as are current or set
abbrev pub killed_at_most : ℕ → List Entry → List Item → ℕ
killed_at_most block log items =
    sum_by parts_set items + sum_by takes_out items * (current_in block log + sum_by parts_set items)

-- the weight of several items behind the log of an index
abbrev pub weights_by : ℕ → IndexValue → List Item → ℕ
weights_by block index items = weights block (λ from. present_from from index.pages.pages) (length index.names.names) items

-- how many pages of a range are present in an index
abbrev pub present_between : IndexValue → ℕ → ℕ → ℕ
present_between index from to = how_many (λ page. is_some (ref_at index.pages.pages page)) from (to - from)

-- the weight of an item behind the log of an index
abbrev pub weight_by : ℕ → IndexValue → Item → ℕ
weight_by block index item = weight block (λ from. present_from from index.pages.pages) (length index.names.names) item
