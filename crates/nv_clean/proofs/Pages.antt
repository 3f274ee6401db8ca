-- How many published entries each page of a cell's log has.
use Rattle.std.proofs.Common.{◌≡◌, ℕ, zero, suc, ◌+◌, ◌-◌, ◌<◌, ◌≤◌, ◌∙◌, Bool, true, false, List, [], ◌∷◌, ap, arith, drop, get_or, if◌then◌else◌, length, length-append, map, min, refl, sym, take, take_all}
use Rattle.std.proofs.lemmas.List.{drop-drop, drop_all}
use Rattle.nv_entry.specs.ByFlags.{page_goes_by}
use Rattle.nv_entry.specs.Clean.{entries_of}
use Rattle.nv_cell.specs.Cell.{CellState, IsCell}
use Rattle.nv_entry.specs.declared.item.Entry.{Entry}
use Rattle.nv_log.specs.Chain.{ChainState, IsChain, end_of, gone_of, log, log_pages, start_of}
use Rattle.nv_log.proofs.Chains.{AreCounts, are_counts}
use Rattle.nv_log.proofs.Parts.{length-part, length-parts}

pub all_counts : (cell : CellState) → IsCell cell → AreCounts cell.chain (map length (log_pages cell.chain))
all_counts cell is =
    let size : length (log_pages cell.chain) ≡ length cell.chain.ends = length-parts 0 cell.chain.ends (log cell.chain) in
    are_counts cell.chain (map length (log_pages cell.chain)) (length cell.chain.ends) is.chain (omega arith)
    (sym (ap (map length) (take_all (length cell.chain.ends) (log_pages cell.chain) (omega (arith, size)))))

pub of_page : (pages : List (List Entry)) (k : ℕ) → k < length pages → get_or (map length pages) k 0 ≡ length (get_or pages k [])
of_page [] k lt = absurd (omega (arith, lt))
of_page (page ∷ pages) zero lt = refl
of_page (page ∷ pages) (suc k) lt = of_page pages k (omega (arith, lt))

pub count_at : (chain : ChainState) (k : ℕ) → IsChain chain → k < length chain.ends
    → get_or (map length (log_pages chain)) k 0 ≡ min (end_of chain k) chain.tail - min (start_of chain k) chain.tail
count_at chain k is lt =
    of_page (log_pages chain) k (omega (arith, lt, length-parts 0 chain.ends (log chain)))
    ∙ length-part chain.page chain.ends chain.tail k chain.entries is.parted lt

-- a page begins where the one before ends
pub next_start : (chain : ChainState) (k : ℕ) → start_of chain (k + 1) ≡ end_of chain k
next_start chain k = let e : k + 1 ≡ suc k = omega arith in ap (start_of chain) e

-- the test of a page, by its place and by how many entries it has
pub page_test : (block : ℕ) (there : List Bool) (kept log : List Entry) (start end len count : ℕ) (goes : Bool) → len ≡ start
    → len + count ≡ end
    → goes ≡ page_goes_by block (drop start there) kept (take (end - start) (drop start log)) (drop end log)
    → goes ≡ page_goes_by block (drop len there) kept (take count (drop len log)) (drop count (drop len log))
page_test block there kept log start end len count goes at whole test =
    let size : end - start ≡ count = omega (arith, at, whole) in
    test
    ∙ ap (λ (n : ℕ). page_goes_by block (drop n there) kept (take (end - start) (drop n log)) (drop end log)) (sym at)
    ∙ ap (λ (n : ℕ). page_goes_by block (drop len there) kept (take n (drop len log)) (drop end log)) size
    ∙ ap (page_goes_by block (drop len there) kept (take count (drop len log)))
    (ap (λ (n : ℕ). drop n log) (sym whole) ∙ sym (drop-drop count len log))

-- ---- how many entries the pages have that go

abbrev pub gone_count : List Bool → List (List Entry) → ℕ
gone_count stays pages = length (entries_of (gone_of stays pages))

-- a page more, by its flag and by how many entries it has
pub count_step : (stays : List Bool) (pages : List (List Entry)) (k : ℕ) (d : Bool) → k < length stays → k < length pages
    → gone_count (drop k stays) (drop k pages)
    ≡ (if get_or stays k d then 0 else length (get_or pages k [])) + gone_count (drop (k + 1) stays) (drop (k + 1) pages)
count_step [] pages k d lt short = absurd (omega (arith, lt))
count_step (stay ∷ stays) [] k d lt short = absurd (omega (arith, short))
count_step (true ∷ stays) (page ∷ pages) zero d lt short = omega arith
count_step (false ∷ stays) (page ∷ pages) zero d lt short = length-append page (entries_of (gone_of stays pages))
count_step (stay ∷ stays) (page ∷ pages) (suc k) d lt short =
    let one : suc k + 1 ≡ suc (k + 1) = omega arith in
    rw one (count_step stays pages k d (omega (arith, lt)) (omega (arith, short)))

-- behind the last flag
pub count_past : (stays : List Bool) (pages : List (List Entry)) (k : ℕ) → length stays ≤ k
    → gone_count (drop k stays) (drop k pages) ≡ 0
count_past stays pages k le = ap (λ (flags : List Bool). gone_count flags (drop k pages)) (drop_all k stays le)
