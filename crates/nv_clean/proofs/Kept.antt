-- Where something keeps each entry except the last all stay, and a page stays where something keeps one of its entries.
use Rattle.std.proofs.Common.{◌≡◌, ℕ, suc, ◌+◌, ◌-◌, ◌<◌, ◌==◌, ◌&&◌, ◌∙◌, Bool, true, false, not, List, [], ◌∷◌, ◌++◌, ap, arith, drop, get_or, length, map, refl, replicate, sym, take}
use Rattle.std.specs.List.{list_any}
use Rattle.std.proofs.lemmas.Bool.{not-false}
use Rattle.std.proofs.lemmas.List.{drop-map, drop_min, length-drop, length-map, length-take, take-map, take_min}
use Rattle.nv_cell.specs.Cell.{CellState, log_of}
use Rattle.nv_cell.specs.Marks.{is_there}
use Rattle.nv_cell.specs.Readers.{counts_of, marks_by_entry, marks_of_page, there_flags}
use Rattle.nv_cell.specs.declared.mark.Mark.{Mark}
use Rattle.nv_cell.proofs.PageMarks.{none_counts}
use Rattle.nv_entry.specs.ByFlags.{page_goes_by, pages_stay_by, stays_by}
use Rattle.nv_entry.specs.Clean.{entries_of, is_empty}
use Rattle.nv_entry.specs.declared.item.Entry.{Entry}
use Rattle.nv_log.specs.Chain.{log_pages, parts_from}
use Rattle.nv_log.proofs.Parts.{length-parts}
use Rattle.nv_clean.specs.Plans.{entries_staying, pages_staying}
use Rattle.nv_clean.proofs.Counted.{any_map, has_kept, none_both, stops}
use Rattle.nv_clean.proofs.Walking.{no_more, there_count}

-- each entry except the last has a flag that is set
abbrev pub AreKept : List Bool → List Entry → Type 0
AreKept flags log = (k : ℕ) → k + 1 < length log → get_or flags k false ≡ true

all_stay : (block : ℕ) (flags : List Bool) (kept log : List Entry) → AreKept flags log
    → stays_by block flags kept log ≡ replicate (length log) true
all_stay block [] kept [] h = refl
all_stay block [] kept (e ∷ log) h = ap (λ (l : List Bool). true ∷ l) (all_stay block [] kept log (λ k lt. h (suc k) (omega (arith, lt))))
all_stay block (flag ∷ flags) kept [] h = refl
all_stay block (flag ∷ flags) kept (e ∷ []) h = ap (λ (l : List Bool). true ∷ l) (no_more block flags (kept ++ e ∷ []))
all_stay block (flag ∷ flags) kept (e ∷ next ∷ log) h =
    rw (h 0 (omega arith))
    (ap (λ (l : List Bool). true ∷ l) (all_stay block flags (kept ++ e ∷ []) (next ∷ log) (λ k lt. h (suc k) (omega (arith, lt)))))

pub entries_all : (cell : CellState) → AreKept (there_flags cell) (log_of cell)
    → entries_staying cell ≡ replicate (length (log_of cell)) true
entries_all cell h = all_stay cell.block (there_flags cell) [] (log_of cell) h

-- each page has a flag that is set
abbrev HaveKept : List Bool → List (List Entry) → Type 0
HaveKept flags [] = Unit {0}
HaveKept flags (page ∷ pages) = (has_kept (take (length page) flags) ≡ true) × HaveKept (drop (length page) flags) pages

pages_stay : (block : ℕ) (flags : List Bool) (kept : List Entry) (pages : List (List Entry)) → HaveKept flags pages
    → pages_stay_by block flags kept pages ≡ replicate (length pages) true
pages_stay block flags kept [] h = refl
pages_stay block flags kept (page ∷ pages) h =
    let stays : false ≡ page_goes_by block flags kept page (entries_of pages) =
    none_both (not (is_empty page))
    ∙ ap (λ (b : Bool). not (is_empty page) && b) (stops block flags kept page (entries_of pages) h.0) in
    rw (← stays) (ap (λ (l : List Bool). true ∷ l) (pages_stay block (drop (length page) flags) (kept ++ page) pages h.1))

-- the marks of a page's entries tell of one that is kept
have_kept : (start : ℕ) (ends : List ℕ) (log : List Entry) (marks : List (List Mark)) → length marks ≡ length log
    → ((k : ℕ) → k < length ends → list_any (list_any is_there) (get_or (parts_from start ends marks) k []) ≡ true)
    → HaveKept (map (list_any is_there) marks) (parts_from start ends log)
have_kept start [] log marks len h = tt
have_kept start (end ∷ ends) log marks len h =
    let n = end - start in
    let test = list_any is_there in
    rw (length-take n log, ← len, ← length-map marks test, take_min n (map test marks), drop_min n (map test marks), take-map test n marks, drop-map test n marks) (
      any_map test (take n marks) ∙ h 0 (omega arith),
      have_kept end ends (drop n log) (drop n marks) (omega (arith, len, length-drop n log, length-drop n marks)) (λ k lt. h (suc k) (omega (arith, lt))),
    )

pub pages_all : (cell : CellState) → ((k : ℕ) → k < length cell.chain.ends → ((counts_of cell k).valid == 0) ≡ false)
    → pages_staying cell ≡ replicate (length cell.chain.ends) true
pages_all cell h =
    let marks = marks_by_entry (log_of cell) cell.marks in
    pages_stay cell.block (there_flags cell) [] (log_pages cell.chain)
    (have_kept 0 cell.chain.ends (log_of cell) marks (sym (length-map marks (list_any is_there)) ∙ there_count cell) (λ k lt.
    not-false (list_any (list_any is_there) (marks_of_page cell k))
    (sym (none_counts (list_any is_there) (marks_of_page cell k) (counts_of cell k).valid refl) ∙ h k lt)))
    ∙ ap (λ (n : ℕ). replicate n true) (length-parts 0 cell.chain.ends (log_of cell))
