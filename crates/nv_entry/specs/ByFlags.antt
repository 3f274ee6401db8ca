-- The walks of the cleaners by flags: a flag for each entry
-- says whether anything keeps a part of it.
-- An entry without a flag stays.
use Rattle.std.specs.Prelude.{ℕ, ◌++◌, ◌&&◌, Bool, true, false, not, if◌then◌else◌, List, [], ◌∷◌, drop, length, map}
use Rattle.std.specs.List.{list_any}
use Rattle.nv_entry.specs.declared.item.Entry.{Entry}
use Rattle.nv_entry.specs.Clean.{entries_of, hides, is_empty}
use Rattle.nv_entry.specs.Counts.{is_entry_kept}
use Rattle.nv_entry.specs.Held.{Retention}

-- for each entry of a log, whether one of its pairs is needed or pending
abbrev pub kept_flags : Retention → List Entry → List Bool
kept_flags r [] = []
kept_flags r (e ∷ later) = is_entry_kept r e later ∷ kept_flags r later

-- an entry between others may go by its flag: it is not the last, nothing
-- keeps it, and it hides none of those before
abbrev pub goes_by : ℕ → Bool → List Entry → Entry → List Entry → Bool
goes_by block flag before e later =
    not (is_empty later) && not flag && not (list_any (λ earlier. hides block e.item earlier.item) before)

-- which of the entries to come stay after a walk from the head, where `kept` are the earlier ones
-- that stay. An entry without a flag stays.
abbrev pub stays_by : ℕ → List Bool → List Entry → List Entry → List Bool
stays_by block [] kept log = map (λ e. true) log
stays_by block (flag ∷ flags) kept [] = []
stays_by block (flag ∷ flags) kept (e ∷ later) =
    if goes_by block flag kept e later
    then false ∷ stays_by block flags kept later
    else true ∷ stays_by block flags (kept ++ e ∷ []) later

-- each entry of a page may go, those before it in the page tried as removed
abbrev pub all_go_by : ℕ → List Bool → List Entry → List Entry → List Entry → Bool
all_go_by block flags kept [] later = true
all_go_by block [] kept (e ∷ page) later = false
all_go_by block (flag ∷ flags) kept (e ∷ page) later =
    goes_by block flag kept e (page ++ later) && all_go_by block flags kept page later

-- a page with entries goes where each of them may go
abbrev pub page_goes_by : ℕ → List Bool → List Entry → List Entry → List Entry → Bool
page_goes_by block flags kept page later = not (is_empty page) && all_go_by block flags kept page later

-- which of the pages to come stay, by a walk by whole pages; `kept` are the earlier entries left
abbrev pub pages_stay_by : ℕ → List Bool → List Entry → List (List Entry) → List Bool
pages_stay_by block flags kept [] = []
pages_stay_by block flags kept (page ∷ pages) =
    if page_goes_by block flags kept page (entries_of pages)
    then false ∷ pages_stay_by block (drop (length page) flags) kept pages
    else true ∷ pages_stay_by block (drop (length page) flags) (kept ++ page) pages
