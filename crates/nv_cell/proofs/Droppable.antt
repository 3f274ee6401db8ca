-- Entries and pages that are droppable may go.
use Rattle.std.proofs.Common.{◌≡◌, ℕ, zero, suc, ◌+◌, ◌-◌, ◌<◌, ◌≤◌, Bool, true, false, List, [], ◌∷◌, ◌++◌, length, length-append, take, drop, replicate, arith, refl, ap, sym, ◌∙◌, subst, append_assoc, slice_get, slice_index_or}
use Rattle.std.specs.List.{AllByRecursion, list_any}
use Rattle.std.proofs.lemmas.List.{append-nil, length-drop, length-map, length-take, length-take-le}
use Rattle.std.proofs.lemmas.Option.{slice_get-map, slice_get_within}
use Rattle.nv_entry.specs.declared.item.Entry.{Entry}
use Rattle.nv_entry.specs.Clean.{entries_of}
use Rattle.nv_entry.specs.Counts.{is_entry_kept}
use Rattle.nv_entry.specs.Covered.{part_count, part_total}
use Rattle.nv_entry.specs.Held.{Retention, keeps}
use Rattle.nv_entry.specs.Keys.{parts_of}
use Rattle.nv_entry.specs.Laws.{AllDroppable, GoIfDroppable, GoIfPageDroppable}
use Rattle.nv_entry.specs.Leaving.{HidesNone}
use Rattle.nv_entry.specs.Log.{pair_of, pairs, pairs_of}
use Rattle.nv_log.specs.Chain.{AreEnds, ChainState, IsChain, gone_of, log, log_pages, parts_from}
use Rattle.nv_log.proofs.Chains.{joined-log_pages}
use Rattle.nv_cell.specs.declared.mark.Mark.{Mark}
use Rattle.nv_cell.specs.declared.mark.Mark.TheVariants.{Current, Killed, Kept, Out}
use Rattle.nv_cell.specs.Cell.{CellState, IsCell, log_of}
use Rattle.nv_cell.specs.Marks.{is_there}
use Rattle.nv_cell.specs.Removal.{ArePublished, HideNoneLeft, MayGo, log_flags, part_flags, run_flags}
use Rattle.nv_cell.specs.Retained.{AreMarksOf}
use Rattle.nv_cell.proofs.NamedParts.{pair_first, pair_later}
use Rattle.nv_cell.proofs.RunFlags.{all_append, gone_of-run}
use Rattle.nv_cell.proofs.Scanned.{AreAlike, any_alike, front_mark, later_mark}

-- each of the entries to come that goes is not the last, is not kept, and hides no earlier one that stays
abbrev AllGoBy : Retention → List Entry → List Entry → List Bool → Type 0
AllGoBy r kept [] [] = Unit {0}
AllGoBy r kept [] (stays ∷ flags) = ⊥
AllGoBy r kept (e ∷ later) [] = Unit {0}
AllGoBy r kept (e ∷ later) (true ∷ flags) = AllGoBy r (kept ++ e ∷ []) later flags
AllGoBy r kept (e ∷ later) (false ∷ flags) =
    (0 < length later) × (is_entry_kept r e later ≡ false) × HidesNone r.block kept e × AllGoBy r kept later flags

-- ---- such entries may go

hidden : (r : Retention) (kept rest : List Entry) (flags : List Bool) → AllGoBy r kept rest flags → HideNoneLeft r.block kept rest flags
hidden r kept [] flags h = tt
hidden r kept (e ∷ later) [] h = tt
hidden r kept (e ∷ later) (true ∷ flags) h = hidden r (kept ++ e ∷ []) later flags h
hidden r kept (e ∷ later) (false ∷ flags) h = (h.2, hidden r kept later flags h.3)

-- `n` is the place of the last entry
stays_at : (r : Retention) (kept rest : List Entry) (flags : List Bool) (n : ℕ) → AllGoBy r kept rest flags → n ≡ length rest - 1
    → slice_index_or flags n true ≡ true
stays_at r kept rest [] n h at = refl
stays_at r kept [] (b ∷ flags) n h at = absurd h
stays_at r kept (e ∷ []) (b ∷ c ∷ flags) n h at = none b h where
  none : (b : Bool) → AllGoBy r kept (e ∷ []) (b ∷ c ∷ flags) → slice_index_or (b ∷ c ∷ flags) n true ≡ true
  none true h = absurd h
  none false h = absurd h.3
stays_at r kept (e ∷ []) (true ∷ []) zero h at = refl
stays_at r kept (e ∷ []) (true ∷ []) (suc n) h at = refl
stays_at r kept (e ∷ []) (false ∷ []) n h at = absurd (omega (arith, h.0))
stays_at r kept (e ∷ x ∷ later) (b ∷ flags) zero h at = absurd (omega (arith, at))
stays_at r kept (e ∷ x ∷ later) (true ∷ flags) (suc n) h at = stays_at r (kept ++ e ∷ []) (x ∷ later) flags n h (omega (arith, at))
stays_at r kept (e ∷ x ∷ later) (false ∷ flags) (suc n) h at = stays_at r kept (x ∷ later) flags n h.3 (omega (arith, at))

pub all_out : (marks : List Mark) → list_any is_there marks ≡ false → AllByRecursion (λ m. m ≡ Out) marks
all_out [] h = tt
all_out (Out ∷ marks) h = (refl, all_out marks h)
all_out (Current ∷ marks) h = cc
all_out (Killed ∷ marks) h = cc
all_out (Kept ∷ marks) h = cc

-- the marks of the first entry, and of the others
pub first_alike : (r : Retention) (e : Entry) (later : List Entry) (marks : List Mark) → length marks ≡ part_total (e ∷ later)
    → AreAlike is_there (keeps r) r.block (e ∷ later) marks → list_any is_there (take (part_count e) marks) ≡ is_entry_kept r e later
first_alike r e later marks len alike =
    let c = part_count e in
    let count : length (pairs_of r.block e later) ≡ c = length-map (parts_of e.item) (pair_of r.block e later) in
    let fits : length (take c marks) ≡ c = length-take-le c marks (omega (arith, len)) in
    any_alike is_there (keeps r) (take c marks) (pairs_of r.block e later) Out (omega (arith, count, fits)) (λ n pair q.
    let lt : n < c = omega (arith, count, slice_get_within (pairs_of r.block e later) n pair q) in
    ap is_there (front_mark marks c n lt)
    ∙ alike n pair (pair_first r.block e later n lt ∙ sym (slice_get-map (pair_of r.block e later) (parts_of e.item) n) ∙ q))

pub later_alike : (r : Retention) (e : Entry) (later : List Entry) (marks : List Mark) → AreAlike is_there (keeps r) r.block (e ∷ later) marks
    → AreAlike is_there (keeps r) r.block later (drop (part_count e) marks)
later_alike r e later marks alike n pair q =
    let c = part_count e in
    let past : c ≤ c + n = omega arith in
    let back : c + n - c ≡ n = omega arith in
    ap is_there (later_mark marks c n)
    ∙ alike (c + n) pair (pair_later r.block e later (c + n) past ∙ ap (slice_get (pairs r.block later)) back ∙ q)

out : (r : Retention) (kept rest : List Entry) (flags : List Bool) (marks : List Mark) → AllGoBy r kept rest flags
    → length marks ≡ part_total rest
    → AreAlike is_there (keeps r) r.block rest marks → AllByRecursion (λ m. m ≡ Out) (gone_of (part_flags flags rest) marks)
out r kept [] [] marks h len alike = tt
out r kept [] (b ∷ flags) marks h len alike = tt
out r kept (e ∷ later) [] marks h len alike = tt
out r kept (e ∷ later) (true ∷ flags) marks h len alike =
    let c = part_count e in
    rw (gone_of-run c true (part_flags flags later) marks)
    (out r (kept ++ e ∷ []) later flags (drop c marks) h (omega (arith, length-drop c marks, len)) (later_alike r e later marks alike))
out r kept (e ∷ later) (false ∷ flags) marks h len alike =
    let c = part_count e in
    rw (gone_of-run c false (part_flags flags later) marks)
    (all_append (λ m. m ≡ Out) (take c marks) (gone_of (part_flags flags later) (drop c marks))
    (all_out (take c marks) (first_alike r e later marks len alike ∙ h.1))
    (out r kept later flags (drop c marks) h.3 (omega (arith, length-drop c marks, len)) (later_alike r e later marks alike)))

may_go : (r : Retention) (cell : CellState) (flags : List Bool) → IsCell cell → AreMarksOf r cell → AllGoBy r [] (log_of cell) flags
    → MayGo flags cell
may_go r cell flags is are h = record {
  last = stays_at r [] (log_of cell) flags (length (log_of cell) - 1) h refl;
  out = out r [] (log_of cell) flags cell.marks h is.marks.len are.there;
  hidden = subst (λ (block : ℕ). HideNoneLeft block [] (log_of cell) flags) are.block (hidden r [] (log_of cell) flags h);
}

-- ---- entries

all_go : (r : Retention) (kept rest : List Entry) (flags : List Bool) → GoIfDroppable r kept rest flags → AllGoBy r kept rest flags
all_go r kept [] [] h = tt
all_go r kept [] (b ∷ flags) h = absurd h
all_go r kept (e ∷ later) [] h = tt
all_go r kept (e ∷ later) (true ∷ flags) h = all_go r (kept ++ e ∷ []) later flags h.1
all_go r kept (e ∷ later) (false ∷ flags) h = (h.0.not_last, h.0.unneeded, h.0.hides_nothing, all_go r kept later flags h.1)

pub entries_may_go : (r : Retention) (cell : CellState) (flags : List Bool) → IsCell cell → AreMarksOf r cell
    → GoIfDroppable r [] (log_of cell) flags
    → MayGo flags cell
entries_may_go r cell flags is are h = may_go r cell flags is are (all_go r [] (log_of cell) flags h)

-- ---- pages

-- a flag for each entry by those of its page
entry_flags : List Bool → List (List Entry) → List Bool
entry_flags [] pages = []
entry_flags (b ∷ flags) [] = []
entry_flags (b ∷ flags) (page ∷ pages) = replicate (length page) b ++ entry_flags flags pages

page_stays : (r : Retention) (kept page later : List Entry) (flags : List Bool) → AllGoBy r (kept ++ page) later flags
    → AllGoBy r kept (page ++ later) (replicate (length page) true ++ flags)
page_stays r kept [] later flags h = subst (λ (es : List Entry). AllGoBy r es later flags) (append-nil kept) h
page_stays r kept (e ∷ page) later flags h =
    page_stays r (kept ++ e ∷ []) page later flags
    (subst (λ (es : List Entry). AllGoBy r es later flags) (sym (append_assoc kept (e ∷ []) page)) h)

page_goes : (r : Retention) (kept page later : List Entry) (flags : List Bool) → AllDroppable r kept page later → AllGoBy r kept later flags
    → AllGoBy r kept (page ++ later) (replicate (length page) false ++ flags)
page_goes r kept [] later flags all h = h
page_goes r kept (e ∷ page) later flags all h =
    (all.0.not_last, all.0.unneeded, all.0.hides_nothing, page_goes r kept page later flags all.1 h)

pages_go : (r : Retention) (kept : List Entry) (pages : List (List Entry)) (stays : List Bool) → GoIfPageDroppable r kept pages stays
    → AllGoBy r kept (entries_of pages) (entry_flags stays pages)
unfolding entry_flags
pages_go r kept [] [] h = tt
pages_go r kept [] (b ∷ stays) h = absurd h
pages_go r kept (page ∷ pages) [] h = absurd h
pages_go r kept (page ∷ pages) (true ∷ stays) h =
    page_stays r kept page (entries_of pages) (entry_flags stays pages) (pages_go r (kept ++ page) pages stays h.1)
pages_go r kept (page ∷ pages) (false ∷ stays) h =
    page_goes r kept page (entries_of pages) (entry_flags stays pages) h.0.all (pages_go r kept pages stays h.1)

take_run : (k : ℕ) (b : Bool) (rest : List Bool) (xs : List Entry)
    → take (length xs) (replicate k b ++ rest) ≡ replicate (length (take k xs)) b ++ take (length (drop k xs)) rest
take_run zero b rest xs = refl
take_run (suc k) b rest [] = refl
take_run (suc k) b rest (x ∷ xs) = ap (λ (bs : List Bool). b ∷ bs) (take_run k b rest xs)

take_none : (n : ℕ) → take {A = Bool} n [] ≡ []
take_none zero = refl
take_none (suc n) = refl

runs_are : (start : ℕ) (stays : List Bool) (ends : List ℕ) (xs : List Entry)
    → take (length xs) (run_flags start stays ends) ≡ entry_flags stays (parts_from start ends xs)
unfolding entry_flags
runs_are start [] ends xs = take_none (length xs)
runs_are start (b ∷ stays) [] xs = take_none (length xs)
runs_are start (b ∷ stays) (end ∷ ends) xs =
    take_run (end - start) b (run_flags end stays ends) xs
    ∙ ap (λ (bs : List Bool). replicate (length (take (end - start) xs)) b ++ bs) (runs_are end stays ends (drop (end - start) xs))

-- a page of which all entries may go has a later one
has_later : (r : Retention) (kept page later : List Entry) → AllDroppable r kept page later → 0 < length page → 0 < length later
has_later r kept [] later all some = absurd (omega arith)
has_later r kept (e ∷ []) later all some = all.0.not_last
has_later r kept (e ∷ x ∷ page) later all some = has_later r kept (x ∷ page) later all.1 (omega arith)

has_some : (start : ℕ) (ends : List ℕ) (xs : List Entry) → 0 < length (entries_of (parts_from start ends xs)) → 0 < length xs
has_some start [] xs some = absurd (omega arith)
has_some start (end ∷ ends) xs some =
    let k = end - start in
    let both : length (entries_of (parts_from start (end ∷ ends) xs))
    ≡ length (take k xs) + length (entries_of (parts_from end ends (drop k xs))) =
    length-append (take k xs) (entries_of (parts_from end ends (drop k xs))) in
    go (length (entries_of (parts_from end ends (drop k xs)))) (λ more. has_some end ends (drop k xs) more) both
  where
    go : (n : ℕ) → (0 < n → 0 < length (drop (end - start) xs))
        → length (entries_of (parts_from start (end ∷ ends) xs)) ≡ length (take (end - start) xs) + n
        → 0 < length xs
    go zero rec both = omega (arith, both, some, length-take (end - start) xs)
    go (suc n) rec both = omega (arith, rec (omega arith), length-drop (end - start) xs)

published : (r : Retention) (kept : List Entry) (most start tail len : ℕ) (ends : List ℕ) (xs : List Entry) (stays : List Bool)
    → AreEnds most start ends len → length xs ≡ tail - start → GoIfPageDroppable r kept (parts_from start ends xs) stays
    → (k : ℕ) → slice_index_or stays k true ≡ false → slice_index_or ends k len ≤ tail
published r kept most start tail len ends xs [] are size h k goes = cc
published r kept most start tail len [] xs (b ∷ stays) are size h k goes = absurd h
published r kept most start tail len (end ∷ ends) xs (true ∷ stays) are size h zero goes = cc
published r kept most start tail len (end ∷ ends) xs (true ∷ stays) are size h (suc k) goes =
    published r (kept ++ take (end - start) xs) most end tail len ends (drop (end - start) xs) stays are.2
    (omega (arith, length-drop (end - start) xs, size, are.0)) h.1 k goes
published r kept most start tail len (end ∷ ends) xs (false ∷ stays) are size h zero goes =
    let rest = entries_of (parts_from end ends (drop (end - start) xs)) in
    let later : 0 < length rest = has_later r kept (take (end - start) xs) rest h.0.all h.0.has_entries in
    omega (arith, has_some end ends (drop (end - start) xs) later, length-drop (end - start) xs, size)
published r kept most start tail len (end ∷ ends) xs (false ∷ stays) are size h (suc k) goes =
    published r kept most end tail len ends (drop (end - start) xs) stays are.2
    (omega (arith, length-drop (end - start) xs, size, are.0)) h.1 k goes

pub pages_may_go : (r : Retention) (cell : CellState) (stays : List Bool) → IsCell cell → AreMarksOf r cell
    → GoIfPageDroppable r [] (log_pages cell.chain) stays → MayGo (log_flags stays cell.chain) cell
pages_may_go r cell stays is are h =
    let size : length (log_of cell) ≡ cell.chain.tail = length-take-le cell.chain.tail cell.chain.entries is.chain.within in
    let flags : entry_flags stays (log_pages cell.chain) ≡ log_flags stays cell.chain =
    sym (runs_are 0 stays cell.chain.ends (log_of cell)) ∙ ap (λ (n : ℕ). take n (run_flags 0 stays cell.chain.ends)) size in
    may_go r cell (log_flags stays cell.chain) is are
    (subst (λ (es : List Entry). AllGoBy r [] es (log_flags stays cell.chain)) (joined-log_pages cell.chain is.chain)
    (subst (AllGoBy r [] (entries_of (log_pages cell.chain))) flags (pages_go r [] (log_pages cell.chain) stays h)))

pub pages_are_published : (r : Retention) (chain : ChainState) (stays : List Bool) → IsChain chain
    → GoIfPageDroppable r [] (log_pages chain) stays → ArePublished stays chain
pages_are_published r chain stays is h =
    published r [] chain.page 0 chain.tail (length chain.entries) chain.ends (log chain) stays is.parted
    (omega (arith, length-take-le chain.tail chain.entries is.within)) h
