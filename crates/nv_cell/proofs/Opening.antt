-- The counts of pages where the chain gets one more entry, past the tail.
use Rattle.std.proofs.Common.{◌≡◌, ℕ, zero, suc, ◌+◌, ◌-◌, ◌<◌, ◌≤◌, ◌==◌, Bool, true, false, cond, nat_lt, List, [], ◌∷◌, ◌++◌, length, length-append, take, arith, refl, ap, sym, ◌∙◌, subst, slice_index_or, get_or, inl, inr}
use Rattle.std.specs.Prelude.{count_by}
use Rattle.std.proofs.lemmas.Bool.{cases_lt, lt-ltb, le-ltb}
use Rattle.std.proofs.lemmas.Bool.Decides.{nat_tests}
use Rattle.std.proofs.lemmas.Grind.{common_steps}
use Rattle.std.proofs.lemmas.List.{take_all}
use Rattle.nv_log.specs.Chain.{AreEnds, ChainState, IsChain, appended, open_of, start_in}
use Rattle.nv_log.proofs.Parts.{ends_last}
use Rattle.nv_entry.specs.declared.item.Entry.{Entry}
use Rattle.nv_cell.specs.declared.tally.LogPageCounts.{LogPageCounts}
use Rattle.nv_cell.specs.declared.tally.Tally.{Tally}
use Rattle.nv_cell.specs.Tallies.{AreCounts, AreRuns, count_in, counts_at, end_at, is_live, is_valid, no_counts, start_at}
use Rattle.nv_cell.proofs.Publishes.{chain_runs}
use Rattle.nv_cell.proofs.Runs.{fewer_runs}
use Rattle.nv_cell.proofs.Tallies.{end_new, end_old, start_old}

-- ---- past the end of a list nothing counts

take_long : {X : Type 0} (xs : List X) (n m : ℕ) → length xs ≤ n → length xs ≤ m → take n xs ≡ take m xs
take_long xs n m h k = take_all n xs h ∙ sym (take_all m xs k)

count_long : {X : Type 0} (test : X → Bool) (xs : List X) (from a b : ℕ) → length xs ≤ a → length xs ≤ b
    → count_in test xs from a ≡ count_in test xs from b
count_long test xs zero a b h k = ap (count_by test) (take_long xs (a - 0) (b - 0) (omega (arith, h)) (omega (arith, k)))
count_long test [] (suc from) a b h k = ap (count_by test) (take_long [] (a - suc from) (b - suc from) (omega arith) (omega arith))
count_long test (x ∷ xs) (suc from) a b h k =
    let p : a - suc from ≡ a - 1 - from = omega arith in
    let q : b - suc from ≡ b - 1 - from = omega arith in
    rw (p, q) (count_long test xs from (a - 1) (b - 1) (omega (arith, h)) (omega (arith, k)))

count_past : {X : Type 0} (test : X → Bool) (xs : List X) (from to : ℕ) → length xs ≤ from → count_in test xs from to ≡ 0
count_past test [] zero to h = nothing (to - 0) where
  nothing : (n : ℕ) → count_by test (take n []) ≡ 0
  nothing zero = refl
  nothing (suc n) = refl
count_past test (x ∷ xs) zero to h = absurd (omega arith)
count_past test [] (suc from) to h = nothing (to - suc from) where
  nothing : (n : ℕ) → count_by test (take n []) ≡ 0
  nothing zero = refl
  nothing (suc n) = refl
count_past test (x ∷ xs) (suc from) to h =
    let p : to - suc from ≡ to - 1 - from = omega arith in
    rw p (count_past test xs from (to - 1) (omega (arith, h)))

-- ---- the last end rises

-- one of the two counts of each page, where the last page ends elsewhere past all
raised : (f : LogPageCounts → ℕ) (test : Tally → Bool) (pages : List LogPageCounts) (tallies : List Tally) (front : List ℕ) (old new : ℕ)
    → length tallies ≤ old → length tallies ≤ new
    → ((k : ℕ) → k < length (front ++ old ∷ [])
    → f (counts_at pages k) ≡ count_in test tallies (start_at (front ++ old ∷ []) k) (end_at (front ++ old ∷ []) k))
    → (k : ℕ) → k < length (front ++ new ∷ [])
    → f (counts_at pages k) ≡ count_in test tallies (start_at (front ++ new ∷ []) k) (end_at (front ++ new ∷ []) k)
raised f test pages tallies front old new low lower h k lt =
    let size : length (front ++ old ∷ []) ≡ length front + 1 = length-append front (old ∷ []) in
    let same : length (front ++ new ∷ []) ≡ length front + 1 = length-append front (new ∷ []) in
    let start : start_at (front ++ old ∷ []) k ≡ start_at (front ++ new ∷ []) k =
    start_old front old k (omega (arith, lt, same)) ∙ sym (start_old front new k (omega (arith, lt, same))) in
    let was = h k (omega (arith, lt, same, size)) in
    elim (cases_lt k (length front)) [
      | inl l ↦
          let end : end_at (front ++ old ∷ []) k ≡ end_at (front ++ new ∷ []) k = end_old front old k l ∙ sym (end_old front new k l) in
          was ∙ rw (start, end) refl
      | inr ge ↦
          let at : k ≡ length front = omega (arith, lt, same, ge) in
          let a : end_at (front ++ old ∷ []) k ≡ old = ap (end_at (front ++ old ∷ [])) at ∙ end_new front old in
          let b : end_at (front ++ new ∷ []) k ≡ new = ap (end_at (front ++ new ∷ [])) at ∙ end_new front new in
          was ∙ rw (start, a, b) (count_long test tallies (start_at (front ++ new ∷ []) k) old new low lower)
    ]

pub counts_raised : (pages : List LogPageCounts) (tallies : List Tally) (front : List ℕ) (old new : ℕ) → length tallies ≤ old
    → length tallies ≤ new
    → AreCounts pages (front ++ old ∷ []) tallies → AreRuns (front ++ new ∷ []) new → AreCounts pages (front ++ new ∷ []) tallies
counts_raised pages tallies front old new low lower h runs = record {
  runs = fewer_runs (front ++ new ∷ []) new (length tallies) runs lower;
  len = omega (arith, h.len, length-append front (old ∷ []), length-append front (new ∷ []));
  live = raised (λ c. c.live) is_live pages tallies front old new low lower h.live;
  valid = raised (λ c. c.valid) is_valid pages tallies front old new low lower h.valid;
}

-- ---- one more page opens

counts_old : (pages : List LogPageCounts) (k : ℕ) → k < length pages → counts_at (pages ++ no_counts ∷ []) k ≡ counts_at pages k
counts_old pages k lt = grind (arith, common_steps)

counts_new : (pages : List LogPageCounts) → counts_at (pages ++ no_counts ∷ []) (length pages) ≡ no_counts
counts_new pages = grind (arith, common_steps)

opened : (f : LogPageCounts → ℕ) (test : Tally → Bool) (pages : List LogPageCounts) (tallies : List Tally) (ends : List ℕ) (new : ℕ)
    → f no_counts ≡ 0 → length pages ≡ length ends → length tallies ≤ start_at (ends ++ new ∷ []) (length ends)
    → ((k : ℕ) → k < length ends → f (counts_at pages k) ≡ count_in test tallies (start_at ends k) (end_at ends k))
    → (k : ℕ) → k < length (ends ++ new ∷ [])
    → f (counts_at (pages ++ no_counts ∷ []) k) ≡ count_in test tallies (start_at (ends ++ new ∷ []) k) (end_at (ends ++ new ∷ []) k)
opened f test pages tallies ends new none len past h k lt =
    let size : length (ends ++ new ∷ []) ≡ length ends + 1 = length-append ends (new ∷ []) in
    elim (cases_lt k (length ends)) [
      | inl l ↦ ap f (counts_old pages k (omega (arith, l, len))) ∙ h k l
          ∙ sym (rw (start_old ends new k (omega (arith, l)), end_old ends new k l) refl)
      | inr ge ↦
          let at : k ≡ length ends = omega (arith, lt, size, ge) in
          let place : k ≡ length pages = omega (arith, at, len) in
          ap (λ (i : ℕ). f (counts_at (pages ++ no_counts ∷ []) i)) place ∙ ap f (counts_new pages) ∙ none
          ∙ sym (count_past test tallies (start_at (ends ++ new ∷ []) k) (end_at (ends ++ new ∷ []) k) (rw at past))
    ]

pub counts_opened : (pages : List LogPageCounts) (tallies : List Tally) (ends : List ℕ) (new : ℕ)
    → length tallies ≤ start_at (ends ++ new ∷ []) (length ends) → length tallies ≤ new
    → AreCounts pages ends tallies → AreRuns (ends ++ new ∷ []) new → AreCounts (pages ++ no_counts ∷ []) (ends ++ new ∷ []) tallies
counts_opened pages tallies ends new past low h runs = record {
  runs = fewer_runs (ends ++ new ∷ []) new (length tallies) runs low;
  len = omega (arith, h.len, length-append ends (new ∷ []), length-append pages (no_counts ∷ []));
  live = opened (λ c. c.live) is_live pages tallies ends new refl h.len past h.live;
  valid = opened (λ c. c.valid) is_valid pages tallies ends new refl h.len past h.valid;
}

-- ---- one more entry

-- the counts, with those of one more page if there is one
abbrev pub counts_for : List LogPageCounts → List ℕ → List LogPageCounts
counts_for pages ends = cond (nat_lt (length pages) (length ends)) (pages ++ no_counts ∷ []) pages

front_last : (ends : List ℕ) → 0 < length ends → take (length ends - 1) ends ++ slice_index_or ends (length ends - 1) 0 ∷ [] ≡ ends
front_last [] lt = absurd (omega arith)
front_last (e ∷ []) lt = refl
front_last (e ∷ (f ∷ ends)) lt =
    let z : length (e ∷ (f ∷ ends)) - 1 ≡ suc (length (f ∷ ends) - 1) = omega arith in
    rw z (ap (λ (xs : List ℕ). e ∷ xs) (front_last (f ∷ ends) (omega arith)))

start_last : (ends : List ℕ) (new len : ℕ) → (0 < length ends → get_or ends (length ends - 1) 0 ≡ len) → (length ends ≡ 0 → len ≡ 0)
    → start_at (ends ++ new ∷ []) (length ends) ≡ len
start_last [] new len last none = sym (none refl)
start_last (e ∷ ends) new len last none =
    start_old (e ∷ ends) new (length (e ∷ ends)) (omega arith) ∙ after (e ∷ ends) (omega arith) ∙ last (omega arith) where
      after : (xs : List ℕ) → 0 < length xs → start_at xs (length xs) ≡ slice_index_or xs (length xs - 1) 0
      after [] lt = absurd (omega arith)
      after (x ∷ xs) lt = let a : (length (x ∷ xs) == 0) ≡ false = grind (arith, nat_tests) in rw a refl

take_none : (ends : List ℕ) → length ends ≤ 0 → take (length ends - 1) ends ≡ ends
take_none [] le = refl
take_none (e ∷ ends) le = absurd (omega arith)

-- the ends after one more entry
abbrev ends_with : ℕ → List ℕ → List ℕ
ends_with new ends = ends ++ new ∷ []

abbrev Grown : List LogPageCounts → List Tally → List ℕ → Type 0
Grown pages tallies ends = AreCounts (counts_for pages ends) ends tallies

rises : (pages : List LogPageCounts) (tallies : List Tally) (ends : List ℕ) (len : ℕ) → 0 < length ends
    → get_or ends (length ends - 1) 0 ≡ len → length tallies ≤ len
    → AreCounts pages ends tallies → AreRuns (ends_with (len + 1) (take (length ends - 1) ends)) (len + 1)
    → Grown pages tallies (ends_with (len + 1) (take (length ends - 1) ends))
rises pages tallies ends len some last low h runs =
    let front = take (length ends - 1) ends in
    let whole : front ++ len ∷ [] ≡ ends = subst (λ (x : ℕ). front ++ x ∷ [] ≡ ends) last (front_last ends some) in
    let before : AreCounts pages (front ++ len ∷ []) tallies = subst (λ (xs : List ℕ). AreCounts pages xs tallies) (sym whole) h in
    let size : length (front ++ (len + 1) ∷ []) ≡ length ends =
    omega (arith, length-append front (len ∷ []), length-append front ((len + 1) ∷ []), ap length whole) in
    let no : nat_lt (length pages) (length (front ++ (len + 1) ∷ [])) ≡ false =
    le-ltb (length pages) (length (front ++ (len + 1) ∷ [])) (omega (arith, size, h.len)) in
    rw no (counts_raised pages tallies front len (len + 1) low (omega arith) before runs)

opens : (pages : List LogPageCounts) (tallies : List Tally) (ends : List ℕ) (len : ℕ)
    → (0 < length ends → get_or ends (length ends - 1) 0 ≡ len) → (length ends ≡ 0 → len ≡ 0) → length tallies ≤ len
    → AreCounts pages ends tallies → AreRuns (ends_with (len + 1) ends) (len + 1) → Grown pages tallies (ends_with (len + 1) ends)
opens pages tallies ends len last none low h runs =
    let yes : nat_lt (length pages) (length (ends ++ (len + 1) ∷ [])) ≡ true =
    lt-ltb (length pages) (length (ends ++ (len + 1) ∷ [])) (omega (arith, h.len, length-append ends ((len + 1) ∷ []))) in
    let past : length tallies ≤ start_at (ends ++ (len + 1) ∷ []) (length ends) = omega (arith, start_last ends (len + 1) len last none) in
    rw yes (counts_opened pages tallies ends (len + 1) past (omega arith) h runs)

no_ends : (most : ℕ) (ends : List ℕ) (len : ℕ) → AreEnds most 0 ends len → length ends ≡ 0 → len ≡ 0
no_ends most [] len h q = sym h
no_ends most (e ∷ ends) len h q = absurd (omega (arith, q))

pub counts_grow : (chain : ChainState) (e : Entry) (pages : List LogPageCounts) (tallies : List Tally) → IsChain chain
    → IsChain (appended e chain) → length tallies ≤ length chain.entries
    → AreCounts pages chain.ends tallies → AreCounts (counts_for pages (appended e chain).ends) (appended e chain).ends tallies
counts_grow chain e pages tallies is next low h = go (nat_lt (len - start_in chain.ends len (length chain.ends - 1)) chain.page) refl where
  len : ℕ
  len = length chain.entries

  last : 0 < length chain.ends → get_or chain.ends (length chain.ends - 1) 0 ≡ len
  last some = ends_last chain.page chain.ends len is.parted some

  runs : AreRuns (appended e chain).ends (len + 1)
  runs = subst (λ (n : ℕ). AreRuns (appended e chain).ends n) (length-append chain.entries (e ∷ [])) (chain_runs (appended e chain) next)

  at : (k : ℕ) (xs : List ℕ) → open_of chain ≡ k → take k chain.ends ≡ xs
      → (AreRuns (ends_with (len + 1) xs) (len + 1) → Grown pages tallies (ends_with (len + 1) xs))
      → Grown pages tallies (appended e chain).ends
  at k xs place front grown =
      let same : ends_with (len + 1) xs ≡ (appended e chain).ends =
      ap (ends_with (len + 1)) (sym (ap (λ (j : ℕ). take j chain.ends) place ∙ front)) in
      subst (Grown pages tallies) same (grown (subst (λ (ends : List ℕ). AreRuns ends (len + 1)) (sym same) runs))

  go : (b : Bool) → nat_lt (len - start_in chain.ends len (length chain.ends - 1)) chain.page ≡ b
      → Grown pages tallies (appended e chain).ends
  go true q = elim (cases_lt 0 (length chain.ends)) [
    | inl some ↦ at (length chain.ends - 1) (take (length chain.ends - 1) chain.ends) (rw q refl) refl
        (λ r. rises pages tallies chain.ends len some (last some) low h r)
    | inr none ↦ at (length chain.ends - 1) chain.ends (rw q refl) (take_none chain.ends none)
        (λ r. opens pages tallies chain.ends len last (no_ends chain.page chain.ends len is.parted) low h r)
  ]
  go false q = at (length chain.ends) chain.ends (rw q refl) (take_all (length chain.ends) chain.ends (omega arith))
      (λ r. opens pages tallies chain.ends len last (no_ends chain.page chain.ends len is.parted) low h r)
