-- The counts of a page are those of its entries' marks.
use Rattle.std.proofs.Common.{◌≡◌, ℕ, zero, suc, ◌+◌, ◌-◌, ◌<◌, ◌≤◌, ◌==◌, ◌||◌, Bool, true, false, not, cond, nat_lt, List, [], ◌∷◌, length, take, drop, arith, refl, ap, sym, ◌∙◌, slice_index_or}
use Rattle.std.specs.Prelude.{count_by}
use Rattle.std.specs.List.{list_any}
use Rattle.std.proofs.lemmas.Bool.{lt-ltb}
use Rattle.std.proofs.lemmas.Bool.Decides.{nat_tests}
use Rattle.std.proofs.lemmas.List.{drop-drop, get_or_past, length-take-le, take-take}
use Rattle.nv_entry.specs.declared.item.Entry.{Entry}
use Rattle.nv_entry.specs.Covered.{part_count, part_total}
use Rattle.nv_log.specs.Chain.{ChainState, IsChain, log, parts_from}
use Rattle.nv_log.proofs.Parts.{length-parts, part_is}
use Rattle.nv_cell.specs.declared.mark.Mark.{Mark}
use Rattle.nv_cell.specs.declared.tally.LogPageCounts.{LogPageCounts}
use Rattle.nv_cell.specs.declared.tally.Tally.{Tally}
use Rattle.nv_cell.specs.Marks.{is_current, is_there}
use Rattle.nv_cell.specs.Numbers.{part_base}
use Rattle.nv_cell.specs.Readers.{marks_by_entry}
use Rattle.nv_cell.specs.Tallies.{AreCounts, AreTallies, count_in, counts_at, end_at, is_live, is_valid, no_tally, start_at, tally_at}
use Rattle.nv_cell.proofs.Publishes.{first_base}
use Rattle.nv_cell.proofs.Runs.{count_cons}

-- ---- as many pass two tests

abbrev one_if : Bool → ℕ
one_if b = cond b 1 0

nothing_taken : {X : Type 0} (f : X → Bool) (n : ℕ) → count_by f (take n []) ≡ 0
nothing_taken f zero = refl
nothing_taken f (suc n) = refl

same_front : {X Y : Type 0} (f : X → Bool) (g : Y → Bool) (xs : List X) (ys : List Y) (d : X) (e : Y) (n : ℕ) → length xs ≡ length ys
    → ((i : ℕ) → i < length xs → f (slice_index_or xs i d) ≡ g (slice_index_or ys i e)) → count_by f (take n xs) ≡ count_by g (take n ys)
same_front f g [] [] d e n len h = nothing_taken f n ∙ sym (nothing_taken g n)
same_front f g [] (y ∷ ys) d e n len h = absurd (omega (arith, len))
same_front f g (x ∷ xs) [] d e n len h = absurd (omega (arith, len))
same_front f g (x ∷ xs) (y ∷ ys) d e zero len h = refl
same_front f g (x ∷ xs) (y ∷ ys) d e (suc n) len h =
    let rest = same_front f g xs ys d e n (omega (arith, len)) (λ i lt. h (suc i) (omega (arith, lt))) in
    let first : one_if (f x) ≡ one_if (g y) = ap one_if (h 0 (omega arith)) in
    let both : one_if (f x) + count_by f (take n xs) ≡ one_if (g y) + count_by g (take n ys) = omega (arith, first, rest) in
    count_cons f x (take n xs) ∙ both ∙ sym (count_cons g y (take n ys))

nothing_left : {X : Type 0} (f : X → Bool) (n from : ℕ) → count_by f (take n (drop from [])) ≡ 0
nothing_left f n zero = nothing_taken f n
nothing_left f n (suc from) = nothing_taken f n

same_count : {X Y : Type 0} (f : X → Bool) (g : Y → Bool) (xs : List X) (ys : List Y) (d : X) (e : Y) (n from : ℕ) → length xs ≡ length ys
    → ((i : ℕ) → i < length xs → f (slice_index_or xs i d) ≡ g (slice_index_or ys i e))
    → count_by f (take n (drop from xs)) ≡ count_by g (take n (drop from ys))
same_count f g xs ys d e n zero len h = same_front f g xs ys d e n len h
same_count f g [] [] d e n (suc from) len h = nothing_taken f n ∙ sym (nothing_taken g n)
same_count f g [] (y ∷ ys) d e n (suc from) len h = absurd (omega (arith, len))
same_count f g (x ∷ xs) [] d e n (suc from) len h = absurd (omega (arith, len))
same_count f g (x ∷ xs) (y ∷ ys) d e n (suc from) len h =
    same_count f g xs ys d e n from (omega (arith, len)) (λ i lt. h (suc i) (omega (arith, lt)))

-- one of a list passes if some do
pub any_counts : {X : Type 0} (f : X → Bool) (xs : List X) → list_any f xs ≡ nat_lt 0 (count_by f xs)
any_counts f [] = refl
any_counts f (x ∷ xs) = go (f x) refl (any_counts f xs) where
  go : (b : Bool) → f x ≡ b → list_any f xs ≡ nat_lt 0 (count_by f xs) → (f x || list_any f xs) ≡ nat_lt 0 (count_by f (x ∷ xs))
  go true q ih =
      let some : 0 < count_by f (x ∷ xs) = omega (arith, count_cons f x xs, ap one_if q) in
      ap (λ (b : Bool). b || list_any f xs) q ∙ sym (lt-ltb 0 (count_by f (x ∷ xs)) some)
  go false q ih =
      let same : count_by f (x ∷ xs) ≡ count_by f xs = omega (arith, count_cons f x xs, ap one_if q) in
      ap (λ (b : Bool). b || list_any f xs) q ∙ ih ∙ ap (nat_lt 0) (sym same)

-- none passes if they are counted to 0
pub none_counts : {X : Type 0} (f : X → Bool) (xs : List X) (n : ℕ) → n ≡ count_by f xs → (n == 0) ≡ not (list_any f xs)
none_counts f xs n is = rw (any_counts f xs, ← is) (go n) where
  go : (n : ℕ) → (n == 0) ≡ not (nat_lt 0 n)
  go zero = refl
  go (suc n) = let a : (suc n == 0) ≡ false =
      grind (arith, nat_tests) in let b : nat_lt 0 (suc n) ≡ true = grind (arith, nat_tests) in rw (a, b) refl

-- ---- the marks of each entry

length-marks : (es : List Entry) (marks : List Mark) → length (marks_by_entry es marks) ≡ length es
length-marks [] marks = refl
length-marks (e ∷ es) marks = ap suc (length-marks es (drop (part_count e) marks))

-- the marks of an entry stand between its first part and the next entry's
marks_at : (es : List Entry) (marks : List Mark) (i : ℕ) → i < length es
    → slice_index_or (marks_by_entry es marks) i [] ≡ take (part_base es (suc i) - part_base es i) (drop (part_base es i) marks)
marks_at [] marks i lt = absurd (omega arith)
marks_at (e ∷ es) marks zero lt = let n : part_count e ≡ part_count e + 0 - 0 = omega arith in ap (λ (k : ℕ). take k marks) n
marks_at (e ∷ es) marks (suc i) lt =
    let n : part_base es (suc i) - part_base es i ≡ part_count e + part_base es (suc i) - (part_count e + part_base es i) = omega arith in
    marks_at es (drop (part_count e) marks) i (omega (arith, lt))
    ∙ ap (take (part_base es (suc i) - part_base es i)) (drop-drop (part_base es i) (part_count e) marks)
    ∙ ap (λ (k : ℕ). take k (drop (part_count e + part_base es i) marks)) n

-- the marks of a published entry, by where the parts of each end
pub entry_marks : (chain : ChainState) (ends : List ℕ) (marks : List Mark) (i : ℕ) → chain.tail ≤ length chain.entries
    → ((j : ℕ) → j < chain.tail → end_at ends j ≡ part_base chain.entries (j + 1)) → i < chain.tail
    → take (end_at ends i - start_at ends i) (drop (start_at ends i) marks) ≡ slice_index_or (marks_by_entry (log chain) marks) i []
entry_marks chain ends marks i within bases lt =
    let es = take chain.tail chain.entries in
    let size : length es ≡ chain.tail = length-take-le chain.tail chain.entries within in
    let next : i + 1 ≡ suc i = omega arith in
    let from : start_at ends i ≡ part_base es i =
    first_base ends chain.entries chain.tail bases i lt ∙ ap part_total (sym (take-take i chain.tail chain.entries (omega arith))) in
    let to : end_at ends i ≡ part_base es (suc i) =
    bases i lt ∙ ap (part_base chain.entries) next
    ∙ ap part_total (sym (take-take (suc i) chain.tail chain.entries (omega (arith, lt)))) in
    rw (from, to) (sym (marks_at es marks i (omega (arith, size, lt))))

-- a tally counts the marks of its entry
pub tally_marks : (test : Mark → Bool) (f : Tally → ℕ) (chain : ChainState) (ends : List ℕ) (tallies : List Tally) (marks : List Mark) (i : ℕ)
    → chain.tail ≤ length chain.entries → length ends ≡ chain.tail
    → ((j : ℕ) → j < chain.tail → end_at ends j ≡ part_base chain.entries (j + 1))
    → ((j : ℕ) → j < length ends → f (tally_at tallies j) ≡ count_in test marks (start_at ends j) (end_at ends j))
    → i < chain.tail → nat_lt 0 (f (tally_at tallies i)) ≡ list_any test (slice_index_or (marks_by_entry (log chain) marks) i [])
tally_marks test f chain ends tallies marks i within len bases counts lt =
    ap (nat_lt 0) (counts i (omega arith)) ∙ sym (any_counts test (take (end_at ends i - start_at ends i) (drop (start_at ends i) marks)))
    ∙ ap (list_any test) (entry_marks chain ends marks i within bases lt)

-- ---- the counts of a page

start_cons : (ends : List ℕ) (k : ℕ) → slice_index_or (0 ∷ ends) k 0 ≡ start_at ends k
start_cons ends zero = refl
start_cons ends (suc k) =
    let a : (suc k == 0) ≡ false = grind (arith, nat_tests) in
    let b : suc k - 1 ≡ k = omega arith in
    rw (a, b) refl

page_count : (test : Mark → Bool) (pass : Tally → Bool) (chain : ChainState) (tallies : List Tally) (marks : List Mark) (k : ℕ)
    → IsChain chain → length tallies ≡ chain.tail
    → ((i : ℕ) → i < chain.tail → pass (tally_at tallies i) ≡ list_any test (slice_index_or (marks_by_entry (log chain) marks) i []))
    → k < length chain.ends
    → count_in pass tallies (start_at chain.ends k) (end_at chain.ends k)
    ≡ count_by (list_any test) (slice_index_or (parts_from 0 chain.ends (marks_by_entry (log chain) marks)) k [])
page_count test pass chain tallies marks k is len same lt =
    let all = marks_by_entry (log chain) marks in
    let size : length tallies ≡ length all =
    omega (arith, len, length-marks (log chain) marks, length-take-le chain.tail chain.entries is.within) in
    let begun : start_at chain.ends k - 0 ≡ start_at chain.ends k = omega arith in
    let start = start_cons chain.ends k in
    let part = part_is chain.page 0 chain.ends (length chain.entries) k 0 all is.parted lt in
    same_count pass (list_any test) tallies all no_tally [] (end_at chain.ends k - start_at chain.ends k) (start_at chain.ends k) size
    (λ i low. same i (omega (arith, low, len)))
    ∙ ap (count_by (list_any test)) (sym (rw (start, begun) at part))

pub counts_are : (chain : ChainState) (pages : List LogPageCounts) (tallies : List Tally) (ends : List ℕ) (marks : List Mark) (k : ℕ)
    → IsChain chain → AreTallies tallies ends marks → AreCounts pages chain.ends tallies → length ends ≡ chain.tail
    → ((j : ℕ) → j < chain.tail → end_at ends j ≡ part_base chain.entries (j + 1)) → k < length chain.ends
    → counts_at pages k ≡ record {
      live = count_by (list_any is_current) (slice_index_or (parts_from 0 chain.ends (marks_by_entry (log chain) marks)) k []);
      valid = count_by (list_any is_there) (slice_index_or (parts_from 0 chain.ends (marks_by_entry (log chain) marks)) k []);
    }
counts_are chain pages tallies ends marks k is tallied counted len bases lt =
    let size : length tallies ≡ chain.tail = omega (arith, tallied.len, len) in
    let live = counted.live k lt
    ∙ page_count is_current is_live chain tallies marks k is size
    (λ i low. tally_marks is_current (λ t. t.current) chain ends tallies marks i is.within len bases tallied.current low) lt in
    let valid = counted.valid k lt
    ∙ page_count is_there is_valid chain tallies marks k is size
    (λ i low. tally_marks is_there (λ t. t.there) chain ends tallies marks i is.within len bases tallied.there low) lt in
    rw (← live, ← valid) refl

-- a page that is not there has no entries
pub no_page : (ends : List ℕ) (all : List (List Mark)) (k : ℕ) → length ends ≤ k → slice_index_or (parts_from 0 ends all) k [] ≡ []
no_page ends all k le = get_or_past (parts_from 0 ends all) k [] (omega (arith, length-parts 0 ends all, le))
