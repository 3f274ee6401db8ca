-- Log pages with their numbers: where entries come to stand, and how many more pages they need.
use Rattle.std.specs.Prelude.{ℕ, ◌-◌, ◌+◌, ◌*◌, ◌&&◌, ◌++◌, Bool, if◌then◌else◌, nat_lt, not, List, [], ◌∷◌, length, map}
use Rattle.std.specs.List.{flat_map}
use Rattle.nv_cell.specs.Readers.{has_entry}
use Rattle.nv_entry.specs.declared.item.Entry.{Entry}
use Rattle.nv_log.specs.Chain.{pages_in}

-- a log page with its number
pub record Page : Type 0 where
  -- the number of its block
  pub number : ℕ
  -- its entries, in append order
  pub entries : List Entry

-- the entries of pages, in order
abbrev pub entries_in : List Page → List Entry
entries_in pages = flat_map (λ (p : Page). p.entries) pages

-- one of these pages has an entry
abbrev pub has_more : List Page → Bool
has_more pages = has_entry (entries_in pages)

-- log pages of these numbers, without an entry
abbrev pub fresh : List ℕ → List Page
fresh numbers = map (λ n. record { number = n; entries = [] }) numbers

-- the pages with one more entry, which goes to the last page that has any while there is room, and
-- then to the next
abbrev pub with_entry : ℕ → Entry → List Page → List Page
with_entry size e [] = []
with_entry size e (p ∷ pages) =
    if nat_lt (length p.entries) size && not (has_more pages) then record p { entries = p.entries ++ e ∷ [] } ∷ pages
    else p ∷ with_entry size e pages

-- the pages with more entries, one after another
abbrev pub with_all : ℕ → List Entry → List Page → List Page
with_all size [] pages = pages
with_all size (e ∷ entries) pages = with_all size entries (with_entry size e pages)

-- how many more entries the pages take behind the last entry
abbrev pub room_in : ℕ → List Page → ℕ
room_in size [] = 0
room_in size (p ∷ pages) = if has_more pages then room_in size pages else (size - length p.entries) + size * length pages

-- how many more log pages so many entries need, by the growth of chains
abbrev pub pages_more : ℕ → List Page → ℕ → ℕ
pages_more size pages count = pages_in count size (length pages) (room_in size pages) count
