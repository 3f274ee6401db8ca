-- The walks by the flags of a retention are those by the retention.
use Rattle.std.proofs.Common.{◌≡◌, ◌&&◌, ◌∙◌, Bool, true, false, if◌then◌else◌, not, List, [], ◌∷◌, ◌++◌, ap, drop, length, refl}
use Rattle.nv_entry.specs.declared.item.Entry.{Entry}
use Rattle.nv_entry.specs.ByFlags.{all_go_by, kept_flags, pages_stay_by, stays_by}
use Rattle.nv_entry.specs.Clean.{all_go, entries_of, entries_stay, is_droppable, is_empty, page_goes, pages_stay}
use Rattle.nv_entry.specs.Held.{Retention}

-- both answers of a test
branches : (b : Bool) (x y u v : List Bool) → x ≡ u → y ≡ v
    → (if b then false ∷ x else true ∷ y) ≡ (if b then false ∷ u else true ∷ v)
branches true x y u v p q = ap (λ (l : List Bool). false ∷ l) p
branches false x y u v p q = ap (λ (l : List Bool). true ∷ l) q

pub entries_by_flags : (r : Retention) (kept log : List Entry)
    → stays_by r.block (kept_flags r log) kept log ≡ entries_stay r kept log
entries_by_flags r kept [] = refl
entries_by_flags r kept (e ∷ later) =
    branches (is_droppable r kept e later) _ _ _ _ (entries_by_flags r kept later)
    (entries_by_flags r (kept ++ e ∷ []) later)

-- flags of the entries behind a page
flags_behind : (r : Retention) (page later : List Entry)
    → drop (length page) (kept_flags r (page ++ later)) ≡ kept_flags r later
flags_behind r [] later = refl
flags_behind r (e ∷ page) later = flags_behind r page later

page_by_flags : (r : Retention) (kept page later : List Entry)
    → all_go_by r.block (kept_flags r (page ++ later)) kept page later ≡ all_go r kept page later
page_by_flags r kept [] later = refl
page_by_flags r kept (e ∷ page) later =
    ap (λ (b : Bool). is_droppable r kept e (page ++ later) && b) (page_by_flags r kept page later)

pub pages_by_flags : (r : Retention) (kept : List Entry) (pages : List (List Entry))
    → pages_stay_by r.block (kept_flags r (entries_of pages)) kept pages ≡ pages_stay r kept pages
pages_by_flags r kept [] = refl
pages_by_flags r kept (page ∷ pages) =
    let later = entries_of pages in
    ap (λ (b : Bool). if not (is_empty page) && b
    then false ∷ pages_stay_by r.block (drop (length page) (kept_flags r (page ++ later))) kept pages
    else true ∷ pages_stay_by r.block (drop (length page) (kept_flags r (page ++ later))) (kept ++ page) pages)
    (page_by_flags r kept page later)
    ∙ branches (page_goes r kept page later) _ _ _ _
    (ap (λ (flags : List Bool). pages_stay_by r.block flags kept pages) (flags_behind r page later)
    ∙ pages_by_flags r kept pages)
    (ap (λ (flags : List Bool). pages_stay_by r.block flags (kept ++ page) pages) (flags_behind r page later)
    ∙ pages_by_flags r (kept ++ page) pages)
