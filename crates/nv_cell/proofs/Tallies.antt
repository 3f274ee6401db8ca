-- The counts after one part has another mark.
use Rattle.std.proofs.Common.{◌≡◌, ℕ, zero, suc, ◌+◌, ◌-◌, ◌<◌, ◌≤◌, ◌==◌, ◌&&◌, Bool, true, false, cond, nat_lt, List, [], ◌∷◌, ◌++◌, length, take, drop, replicate, arith, refl, ap, sym, ◌∙◌, subst, slice_set, slice_index_or, length-append, inl, inr}
use Rattle.std.proofs.lemmas.Grind.{common_steps}
use Rattle.nv_cell.specs.declared.mark.Mark.{Mark}
use Rattle.nv_cell.specs.declared.mark.Mark.TheVariants.{Current, Out}
use Rattle.nv_cell.specs.declared.tally.Tally.{Tally}
use Rattle.nv_cell.specs.declared.tally.LogPageCounts.{LogPageCounts}
use Rattle.nv_cell.specs.Marks.{is_current, is_there, bit, mark_at}
use Rattle.nv_cell.specs.Tallies.{AreRuns, AreTallies, AreCounts, start_at, end_at, count_in, is_live, is_valid, moved, recounted, tally_at, no_tally, counts_at, no_counts, first_slot, IsInRun}
use Rattle.std.specs.Prelude.{count_by}
use Rattle.std.proofs.lemmas.List.Sums.{sum_by-cons}
use Rattle.std.proofs.lemmas.Bool.{eqb-true, cases_lt}
use Rattle.std.proofs.lemmas.Bool.Decides.{nat_tests}
use Rattle.nv_cell.proofs.Runs.{at_index, in_range, one_run, count_some, recount, both}

pub bit_cond : (b : Bool) → bit b ≡ cond b 1 0
bit_cond true = refl
bit_cond false = refl

-- what a run counts is there, and few
pub counted : {X : Type 0} (test : X → Bool) (d : X) (xs : List X) (ends : List ℕ) (k i : ℕ) (c : ℕ) → test d ≡ false
    → c ≡ count_in test xs (start_at ends k) (end_at ends k) → i < length xs → start_at ends k ≤ i → i < end_at ends k
    → bit (test (slice_index_or xs i d)) ≤ c
counted test d xs ends k i c fails q lt s e =
    omega (arith, bit_cond (test (slice_index_or xs i d)), count_some test d xs (start_at ends k) (end_at ends k) i d fails lt s e)

pub few : {X : Type 0} (test : X → Bool) (xs : List X) (from to c : ℕ) → c ≡ count_in test xs from to → c ≤ length xs
few test xs from to c q = let b = both test (λ x. false) (λ x h. refl) xs from to in omega (arith, b, q)

counts_set : (pages : List LogPageCounts) (k j : ℕ) (c : LogPageCounts) → k < length pages
    → counts_at (slice_set pages k c) j ≡ cond (k == j) c (counts_at pages j)
counts_set pages k j c lt = grind (arith, common_steps)

-- one of the two counts of each page, after one entry's tally has changed
new_count : (f : LogPageCounts → ℕ) (test : Tally → Bool) (tallies : List Tally) (pages : List LogPageCounts) (ends : List ℕ) (i k : ℕ)
    (t : Tally) (c : LogPageCounts) → AreRuns ends (length tallies) → length pages ≡ length ends
    → k < length ends → start_at ends k ≤ i → i < end_at ends k → i < length tallies → test no_tally ≡ false
    → ((j : ℕ) → j < length ends → f (counts_at pages j) ≡ count_in test tallies (start_at ends j) (end_at ends j))
    → f c ≡ f (counts_at pages k) - bit (test (tally_at tallies i)) + bit (test t)
    → (j : ℕ) → j < length ends
    → f (counts_at (slice_set pages k c) j) ≡ count_in test (slice_set tallies i t) (start_at ends j) (end_at ends j)
new_count f test tallies pages ends i k t c runs len lk s e li fails old is =
    recount test no_tally tallies ends i k t (λ j. f (counts_at pages j)) (λ j. f (counts_at (slice_set pages k c) j)) runs lk s e li old
    (omega (
      arith,
      counted test no_tally tallies ends k i (f (counts_at pages k)) fails (old k lk) li s e,
      bit_cond
          (test (tally_at tallies i)),
    ))
    (λ j. ap f (counts_set pages k j c (omega arith)) ∙ pick (k == j) (counts_at pages j)
    ∙ rw (← bit_cond (test (tally_at tallies i)), ← bit_cond (test t), is) refl) where
      pick : (b : Bool) (d : LogPageCounts) → f (cond b c d) ≡ cond b (f c) (f d)
      pick true d = refl
      pick false d = refl

pub new_counts : (tallies : List Tally) (ends : List ℕ) (pages : List LogPageCounts) (i k : ℕ) (t : Tally) → AreCounts pages ends tallies
    → k < length ends → start_at ends k ≤ i → i < end_at ends k → i < length tallies
    → AreCounts (slice_set pages k (recounted (counts_at pages k) (tally_at tallies i) t)) ends (slice_set tallies i t)
new_counts tallies ends pages i k t h lk s e li =
    let len : length (slice_set tallies i t) ≡ length tallies = grind (arith, common_steps) in
    record {
      runs = subst (λ (n : ℕ). AreRuns ends n) (sym len) h.runs;
      len = grind (arith, common_steps, h.len);
      live =
          new_count (λ c. c.live) is_live tallies pages ends i k t
          (recounted (counts_at pages k) (tally_at tallies i) t) h.runs h.len lk s e li refl h.live refl;
      valid =
          new_count (λ c. c.valid) is_valid tallies pages ends i k t
          (recounted (counts_at pages k) (tally_at tallies i) t) h.runs h.len lk s e li refl h.valid refl;
    }

tally_set : (tallies : List Tally) (i j : ℕ) (t : Tally) → i < length tallies
    → tally_at (slice_set tallies i t) j ≡ cond (i == j) t (tally_at tallies j)
tally_set tallies i j t lt = grind (arith, common_steps)

pick_current : (b : Bool) (t u : Tally) → (cond b t u).current ≡ cond b t.current u.current
pick_current true t u = refl
pick_current false t u = refl

pick_there : (b : Bool) (t u : Tally) → (cond b t u).there ≡ cond b t.there u.there
pick_there true t u = refl
pick_there false t u = refl

-- an entry's slots, and a run, begin where those before end
pub next_slot : (tallies : List Tally) (i : ℕ) → first_slot tallies (suc i) ≡ (tally_at tallies i).slots_end
next_slot tallies i =
    let a : (suc i == 0) ≡ false = grind (arith, nat_tests) in
    let b : suc i - 1 ≡ i = omega arith in
    rw (a, b) refl

pub next_start : (ends : List ℕ) (i : ℕ) → start_at ends (suc i) ≡ end_at ends i
next_start ends i =
    let a : (suc i == 0) ≡ false = grind (arith, nat_tests) in
    let b : suc i - 1 ≡ i = omega arith in
    rw (a, b) refl

-- another tally with as many slots moves none
same_slots : (tallies : List Tally) (i j : ℕ) (t : Tally) → i < length tallies → t.slots_end ≡ (tally_at tallies i).slots_end
    → (tally_at (slice_set tallies i t) j).slots_end ≡ (tally_at tallies j).slots_end
same_slots tallies i j t lt is = ap (λ (x : Tally). x.slots_end) (tally_set tallies i j t lt) ∙ go (i == j) refl where
  go : (b : Bool) → (i == j) ≡ b → (cond (i == j) t (tally_at tallies j)).slots_end ≡ (tally_at tallies j).slots_end
  go true q = let same : i ≡ j = eqb-true i j q in rw q (is ∙ ap (λ (k : ℕ). (tally_at tallies k).slots_end) same)
  go false q = rw q refl

same_first : (tallies : List Tally) (i j : ℕ) (t : Tally) → i < length tallies → t.slots_end ≡ (tally_at tallies i).slots_end
    → first_slot (slice_set tallies i t) j ≡ first_slot tallies j
same_first tallies i zero t lt is = refl
same_first tallies i (suc j) t lt is =
    next_slot (slice_set tallies i t) j ∙ same_slots tallies i j t lt is ∙ sym (next_slot tallies j)

-- a run does not end before it starts
start_end_rises : (ends : List ℕ) (len i : ℕ) → AreRuns ends len → i < length ends → start_at ends i ≤ end_at ends i
start_end_rises ends len zero h lt = omega arith
start_end_rises ends len (suc i) h lt = rw (next_start ends i) (h.rising i (suc i) (omega arith) lt)

-- no more slots than parts lie in front of an entry
pub few_slots : (tallies : List Tally) (ends : List ℕ) (marks : List Mark) → AreTallies tallies ends marks → (i : ℕ) → i ≤ length ends
    → first_slot tallies i ≤ start_at ends i
few_slots tallies ends marks h zero le = omega arith
few_slots tallies ends marks h (suc i) le =
    let lt : i < length ends = omega (arith, le) in
    let before = few_slots tallies ends marks h i (omega (arith, lt)) in
    rw (next_slot tallies i, next_start ends i)
    (omega (arith, h.slots i lt, before, start_end_rises ends (length marks) i h.runs lt))

pub new_tallies : (tallies : List Tally) (ends : List ℕ) (marks : List Mark) (i n : ℕ) (m : Mark) → AreTallies tallies ends marks
    → i < length ends → start_at ends i ≤ n → n < end_at ends i → n < length marks
    → AreTallies (slice_set tallies i (moved (tally_at tallies i) (mark_at marks n) m)) ends (slice_set marks n m)
new_tallies tallies ends marks i n m h li s e ln =
    let t = moved (tally_at tallies i) (mark_at marks n) m in
    let len : length (slice_set marks n m) ≡ length marks = grind (arith, common_steps) in
    let lt : i < length tallies = omega (arith, h.len) in
    record {
      runs = subst (λ (k : ℕ). AreRuns ends k) (sym len) h.runs;
      within = λ j lj. rw len (h.within j lj);
      whole = h.whole ∙ sym len;
      len = grind (arith, common_steps, h.len);
      current =
          recount is_current Out marks ends n i m (λ j. (tally_at tallies j).current)
          (λ j. (tally_at (slice_set tallies i (moved (tally_at tallies i) (mark_at marks n) m)) j).current) h.runs li s e ln h.current
          (omega (
            arith,
            counted is_current Out marks ends i n (tally_at tallies i).current refl (h.current i li) ln s e,
            bit_cond
                (is_current (mark_at marks n)),
          ))
          (λ j. ap (λ (x : Tally). x.current) (tally_set tallies i j t lt) ∙ pick_current (i == j) t (tally_at tallies j)
          ∙ rw (bit_cond (is_current (mark_at marks n)), bit_cond (is_current m)) refl);
      there =
          recount is_there Out marks ends n i m (λ j. (tally_at tallies j).there)
          (λ j. (tally_at (slice_set tallies i (moved (tally_at tallies i) (mark_at marks n) m)) j).there) h.runs li s e ln h.there
          (omega (
            arith,
            counted is_there Out marks ends i n (tally_at tallies i).there refl (h.there i li) ln s e,
            bit_cond
                (is_there (mark_at marks n)),
          ))
          (λ j. ap (λ (x : Tally). x.there) (tally_set tallies i j t lt) ∙ pick_there (i == j) t (tally_at tallies j)
          ∙ rw (bit_cond (is_there (mark_at marks n)), bit_cond (is_there m)) refl);
      slots = λ j lj. same_slots tallies i j t lt refl ∙ h.slots j lj
          ∙ ap (λ (k : ℕ). k + (end_at ends j - start_at ends j - 1)) (sym (same_first tallies i j t lt refl));
    }

pub same_mark : (marks : List Mark) (n : ℕ) → n < length marks → slice_index_or marks n Current ≡ mark_at marks n
same_mark marks n lt = grind (arith, common_steps)

-- ---- one more entry

count_cons2 : {X : Type 0} (test : X → Bool) (x : X) (xs : List X) → count_by test (x ∷ xs) ≡ cond (test x) 1 0 + count_by test xs
count_cons2 test x xs = sum_by-cons (λ y. cond (test y) 1 0) x xs

take_front : {X : Type 0} (xs ys : List X) (n : ℕ) → n ≤ length xs → take n (xs ++ ys) ≡ take n xs
take_front [] ys zero h = refl
take_front [] ys (suc n) h = absurd (omega arith)
take_front (x ∷ xs) ys zero h = refl
take_front (x ∷ xs) ys (suc n) h = ap (λ zs. x ∷ zs) (take_front xs ys n (omega (arith, h)))

pub old_run : {X : Type 0} (test : X → Bool) (xs ys : List X) (from to : ℕ) → to ≤ length xs
    → count_in test (xs ++ ys) from to ≡ count_in test xs from to
old_run test [] ys zero to h = let z : to - 0 ≡ 0 = omega arith in rw z refl
old_run test [] ys (suc from) to h = let z : to - suc from ≡ 0 = omega arith in rw z refl
old_run test (x ∷ xs) ys zero to h = ap (count_by test) (take_front (x ∷ xs) ys (to - 0) (omega (arith, h)))
old_run test (x ∷ xs) ys (suc from) to h =
    let s : to - 1 - from ≡ to - suc from = omega arith in
    rw s at (old_run test xs ys from (to - 1) (omega (arith, h)))

take_all2 : {X : Type 0} (ys : List X) → take (length ys) ys ≡ ys
take_all2 [] = refl
take_all2 (y ∷ ys) = ap (λ zs. y ∷ zs) (take_all2 ys)

drop_front : {X : Type 0} (xs ys : List X) → drop (length xs) (xs ++ ys) ≡ ys
drop_front [] ys = refl
drop_front (x ∷ xs) ys = drop_front xs ys

pub new_run : {X : Type 0} (test : X → Bool) (xs ys : List X)
    → count_in test (xs ++ ys) (length xs) (length xs + length ys) ≡ count_by test ys
new_run test xs ys =
    let s : length xs + length ys - length xs ≡ length ys = omega arith in
    rw (s, drop_front xs ys, take_all2 ys) refl

pub count_all : {X : Type 0} (test : X → Bool) (x : X) (n : ℕ) → test x ≡ true → count_by test (replicate n x) ≡ n
count_all test x zero h = refl
count_all test x (suc n) h =
    count_cons2 test x (replicate n x)
    ∙ rw h (let i = count_all test x n h in let z : 1 + count_by test (replicate n x) ≡ suc n = omega arith in z)

taken_none : {X : Type 0} (test : X → Bool) (n : ℕ) → count_by test (take n []) ≡ 0
taken_none test zero = refl
taken_none test (suc n) = refl

dropped_none : {X : Type 0} (test : X → Bool) (n from : ℕ) → count_by test (take n (drop from [])) ≡ 0
dropped_none test zero zero = refl
dropped_none test zero (suc from) = refl
dropped_none test (suc n) zero = refl
dropped_none test (suc n) (suc from) = refl

push_front : {X : Type 0} (test : X → Bool) (xs : List X) (x : X) (len : ℕ)
    → count_by test (take len (xs ++ x ∷ [])) ≡ count_by test (take len xs) + cond (nat_lt (length xs) len && test x) 1 0
push_front test [] x zero = refl
push_front test [] x (suc len) =
    let z : nat_lt 0 (suc len) ≡ true = grind (arith, nat_tests) in
    rw z (let e : count_by test (x ∷ take len []) ≡ 0 + cond (test x) 1 0 =
    omega (arith, count_cons2 test x (take len []), taken_none test len) in e)
push_front test (y ∷ ys) x zero = let z : nat_lt (suc (length ys)) 0 ≡ false = grind (arith, nat_tests) in rw z refl
push_front test (y ∷ ys) x (suc len) =
    let z : nat_lt (suc (length ys)) (suc len) ≡ nat_lt (length ys) len = grind (arith, nat_tests) in
    rw z (let i = push_front test ys x len in let e : count_by test (y ∷ take len (ys ++ x ∷ []))
    ≡ count_by test (y ∷ take len ys) + cond (nat_lt (length ys) len && test x) 1 0 =
    omega (arith, i, count_cons2 test y (take len (ys ++ x ∷ [])), count_cons2 test y (take len ys)) in e)

pub push_count : {X : Type 0} (test : X → Bool) (xs : List X) (x : X) (from to : ℕ)
    → count_in test (xs ++ x ∷ []) from to ≡ count_in test xs from to + cond (in_range from to (length xs) && test x) 1 0
push_count test xs x zero to =
    let z : in_range 0 to (length xs) ≡ nat_lt (length xs) (to - 0) = grind (arith, nat_tests) in rw z (push_front test xs x (to - 0))
push_count test [] x (suc from) to =
    let z : in_range (suc from) to 0 ≡ false = grind (arith, nat_tests) in
    rw z (let e : count_by test (take (to - suc from) (drop from [])) ≡ count_by test (take (to - suc from) []) + 0 =
    omega (arith, dropped_none test (to - suc from) from, taken_none test (to - suc from)) in e)
push_count test (y ∷ ys) x (suc from) to =
    let s : to - 1 - from ≡ to - suc from = omega arith in
    let z : in_range (suc from) to (suc (length ys)) ≡ in_range from (to - 1) (length ys) = grind (arith, nat_tests) in
    rw z (rw s at (push_count test ys x from (to - 1)))

-- one of the two counts of each page, after one more entry
push_counts : (f : LogPageCounts → ℕ) (test : Tally → Bool) (tallies : List Tally) (t : Tally) (pages : List LogPageCounts) (ends : List ℕ)
    (k : ℕ) (c : LogPageCounts) → AreRuns ends (length tallies) → length pages ≡ length ends
    → k < length ends → start_at ends k ≤ length tallies → length tallies < end_at ends k
    → ((j : ℕ) → j < length ends → f (counts_at pages j) ≡ count_in test tallies (start_at ends j) (end_at ends j))
    → f c ≡ f (counts_at pages k) + bit (test t)
    → (j : ℕ) → j < length ends
    → f (counts_at (slice_set pages k c) j) ≡ count_in test (tallies ++ t ∷ []) (start_at ends j) (end_at ends j)
push_counts f test tallies t pages ends k c runs len lk s e old is j lj =
    ap f (counts_set pages k j c (omega arith))
    ∙ go (k == j) refl (push_count test tallies t (start_at ends j) (end_at ends j))
    (one_run ends (length tallies) k j (length tallies) runs lk lj s e) where
      go : (b : Bool) → (k == j) ≡ b
          → count_in test (tallies ++ t ∷ []) (start_at ends j) (end_at ends j)
          ≡ count_in test tallies (start_at ends j) (end_at ends j) + cond
          (in_range (start_at ends j) (end_at ends j) (length tallies) && test t) 1 0
          → in_range (start_at ends j) (end_at ends j) (length tallies) ≡ (k == j)
          → f (cond (k == j) c (counts_at pages j)) ≡ count_in test (tallies ++ t ∷ []) (start_at ends j) (end_at ends j)
      go true q p r =
          let same : k ≡ j = eqb-true k j q in
          let h = rw (r, q) at p in
          let o = old j lj in
          let g : f (counts_at pages k) ≡ f (counts_at pages j) = ap (λ (i : ℕ). f (counts_at pages i)) same in
          rw q (omega (arith, h, o, g, is, bit_cond (test t)))
      go false q p r =
          let h = rw (r, q) at p in
          rw q (omega (arith, h, old j lj))

pub add_runs : (ends : List ℕ) (len count : ℕ) → AreRuns ends len → ((i : ℕ) → i < length ends → end_at ends i ≤ len)
    → AreRuns (ends ++ (len + count) ∷ []) (len + count)
add_runs ends len count h within = record {
  rising = λ i j le lt. rise i j le lt;
  all = λ n lt. (grind (arith, common_steps), (let e = last in omega arith));
} where
  size : length (ends ++ (len + count) ∷ []) ≡ length ends + 1
  size = length-append ends ((len + count) ∷ [])

  last : end_at (ends ++ (len + count) ∷ []) (length (ends ++ (len + count) ∷ []) - 1) ≡ len + count
  last = grind (arith, common_steps, size)

  old : (i : ℕ) → i < length ends → end_at (ends ++ (len + count) ∷ []) i ≡ end_at ends i
  old i lt = grind (arith, common_steps)

  new : end_at (ends ++ (len + count) ∷ []) (length ends) ≡ len + count
  new = grind (arith, common_steps)

  rise : (i j : ℕ) → i ≤ j → j < length (ends ++ (len + count) ∷ [])
      → end_at (ends ++ (len + count) ∷ []) i ≤ end_at (ends ++ (len + count) ∷ []) j
  rise i j le lt = elim (cases_lt j (length ends)) [
    | inl l ↦ omega (arith, old i (omega arith), old j l, h.rising i j le l)
    | inr g ↦ let same : j ≡ length ends = omega (arith, lt, g, size) in rw same (elim (cases_lt i (length ends)) [
      | inl l ↦ omega (arith, old i l, new, within i l)
      | inr m ↦ let s2 : i ≡ length ends = omega (arith, same, le, m) in rw s2 (omega arith)
    ])
  ]

pub start_old : (ends : List ℕ) (x j : ℕ) → j ≤ length ends → start_at (ends ++ x ∷ []) j ≡ start_at ends j
start_old ends x zero h = refl
start_old ends x (suc j) h =
    let a : (suc j == 0) ≡ false = grind (arith, nat_tests) in
    let b : suc j - 1 ≡ j = omega arith in
    rw (a, b) (at j (omega (arith, h))) where
      at : (j : ℕ) → j < length ends → slice_index_or (ends ++ x ∷ []) j 0 ≡ slice_index_or ends j 0
      at j lt = grind (arith, common_steps)

pub end_old : (ends : List ℕ) (x j : ℕ) → j < length ends → end_at (ends ++ x ∷ []) j ≡ end_at ends j
end_old ends x j lt = grind (arith, common_steps)

pub end_new : (ends : List ℕ) (x : ℕ) → end_at (ends ++ x ∷ []) (length ends) ≡ x
end_new ends x = grind (arith, common_steps)

tally_old : (tallies : List Tally) (t : Tally) (j : ℕ) → j < length tallies → tally_at (tallies ++ t ∷ []) j ≡ tally_at tallies j
tally_old tallies t j lt = grind (arith, common_steps)

tally_new : (tallies : List Tally) (t : Tally) → tally_at (tallies ++ t ∷ []) (length tallies) ≡ t
tally_new tallies t = grind (arith, common_steps)

pub fresh_length : (count : ℕ) → length (replicate count Current) ≡ count
fresh_length zero = refl
fresh_length (suc n) = ap suc (fresh_length n)

start_end : (ends : List ℕ) (x : ℕ) → start_at (ends ++ x ∷ []) (length ends + 1) ≡ x
start_end ends x =
    let a : (length ends + 1 == 0) ≡ false = grind (arith, nat_tests) in
    let b : length ends + 1 - 1 ≡ length ends = omega arith in
    rw (a, b) (end_new ends x)

-- each tally of old entries, and the new one's
each_old : (test : Mark → Bool) (f : Tally → ℕ) (tallies : List Tally) (t : Tally) (ends : List ℕ) (marks fresh : List Mark) (x j : ℕ)
    → length tallies ≡ length ends → j < length ends → end_at ends j ≤ length marks
    → f (tally_at tallies j) ≡ count_in test marks (start_at ends j) (end_at ends j)
    → f (tally_at (tallies ++ t ∷ []) j) ≡ count_in test (marks ++ fresh) (start_at (ends ++ x ∷ []) j) (end_at (ends ++ x ∷ []) j)
each_old test f tallies t ends marks fresh x j len lt le h =
    ap f (tally_old tallies t j (omega (arith, len))) ∙ h
    ∙ rw (start_old ends x j (omega (arith, lt)), end_old ends x j lt) (sym (old_run test marks fresh (start_at ends j) (end_at ends j) le))

each_new : (test : Mark → Bool) (f : Tally → ℕ) (tallies : List Tally) (t : Tally) (ends : List ℕ) (marks : List Mark) (count : ℕ)
    → length tallies ≡ length ends → start_at ends (length ends) ≡ length marks
    → f t ≡ count_by test (replicate count Current)
    → f (tally_at (tallies ++ t ∷ []) (length ends))
    ≡ count_in test (marks ++ replicate count Current) (start_at (ends ++ (length marks + count) ∷ []) (length ends))
    (end_at (ends ++ (length marks + count) ∷ []) (length ends))
each_new test f tallies t ends marks count len whole h =
    let n : count_in test (marks ++ replicate count Current) (length marks) (length marks + count)
    ≡ count_by test (replicate count Current) = rw (fresh_length count) at (new_run test marks (replicate count Current)) in
    ap (λ (i : ℕ). f (tally_at (tallies ++ t ∷ []) i)) (sym len) ∙ ap f (tally_new tallies t) ∙ h
    ∙ rw (start_old ends (length marks + count) (length ends) (omega arith), whole, end_new ends (length marks + count)) (sym n)

first_old : (tallies : List Tally) (t : Tally) (j : ℕ) → j ≤ length tallies → first_slot (tallies ++ t ∷ []) j ≡ first_slot tallies j
first_old tallies t zero h = refl
first_old tallies t (suc j) h =
    next_slot (tallies ++ t ∷ []) j ∙ ap (λ (x : Tally). x.slots_end) (tally_old tallies t j (omega (arith, h))) ∙ sym (next_slot tallies j)

-- the slots of old entries, and the new one's
slots_old : (tallies : List Tally) (t : Tally) (ends : List ℕ) (x j : ℕ) → length tallies ≡ length ends → j < length ends
    → (tally_at tallies j).slots_end ≡ first_slot tallies j + (end_at ends j - start_at ends j - 1)
    → (tally_at (tallies ++ t ∷ []) j).slots_end
    ≡ first_slot (tallies ++ t ∷ []) j + (end_at (ends ++ x ∷ []) j - start_at (ends ++ x ∷ []) j - 1)
slots_old tallies t ends x j len lt h =
    ap (λ (y : Tally). y.slots_end) (tally_old tallies t j (omega (arith, len, lt))) ∙ h
    ∙ rw (first_old tallies t j (omega (arith, len, lt)), start_old ends x j (omega (arith, lt)), end_old ends x j lt) refl

slots_new : (tallies : List Tally) (t : Tally) (ends : List ℕ) (len count : ℕ) → length tallies ≡ length ends
    → start_at ends (length ends) ≡ len → t.slots_end ≡ first_slot tallies (length tallies) + (count - 1)
    → (tally_at (tallies ++ t ∷ []) (length ends)).slots_end
    ≡ first_slot (tallies ++ t ∷ []) (length ends)
    + (end_at (ends ++ (len + count) ∷ []) (length ends) - start_at (ends ++ (len + count) ∷ []) (length ends) - 1)
slots_new tallies t ends len count same whole is =
    let own : (tally_at (tallies ++ t ∷ []) (length ends)).slots_end ≡ t.slots_end =
    ap (λ (i : ℕ). (tally_at (tallies ++ t ∷ []) i).slots_end) (sym same) ∙ ap (λ (x : Tally). x.slots_end) (tally_new tallies t) in
    let first : first_slot (tallies ++ t ∷ []) (length ends) ≡ first_slot tallies (length tallies) =
    ap (λ (i : ℕ). first_slot (tallies ++ t ∷ []) i) (sym same) ∙ first_old tallies t (length tallies) (omega arith) in
    let start = start_old ends (len + count) (length ends) (omega arith) in
    omega (arith, own, is, first, start, whole, end_new ends (len + count))

pub add_tallies : (tallies : List Tally) (t : Tally) (ends : List ℕ) (marks : List Mark) (count : ℕ) → AreTallies tallies ends marks
    → t.current ≡ count → t.there ≡ count → t.slots_end ≡ first_slot tallies (length tallies) + (count - 1)
    → AreTallies (tallies ++ t ∷ []) (ends ++ (length marks + count) ∷ []) (marks ++ replicate count Current)
add_tallies tallies t ends marks count h current_is there_is slots_is = record {
  runs = rw size (add_runs ends (length marks) count h.runs h.within);
  within = λ j lj. within j lj;
  whole = rw more (start_end ends (length marks + count)) ∙ sym size;
  len = omega (arith, length-append tallies (t ∷ []), more, h.len);
  current = λ j lj. elim (cases_lt j (length ends)) [
    | inl l ↦ each_old is_current (λ t. t.current) tallies t ends marks (replicate count Current) (length marks + count) j h.len l
        (h.within j l) (h.current j l)
    | inr g ↦ rw (at_end j lj g) (each_new is_current (λ t. t.current) tallies t ends marks count h.len h.whole
        (current_is ∙ sym (count_all is_current Current count refl)))
  ];
  there = λ j lj. elim (cases_lt j (length ends)) [
    | inl l ↦ each_old is_there (λ t. t.there) tallies t ends marks (replicate count Current) (length marks + count) j h.len l
        (h.within j l) (h.there j l)
    | inr g ↦ rw (at_end j lj g) (each_new is_there (λ t. t.there) tallies t ends marks count h.len h.whole
        (there_is ∙ sym (count_all is_there Current count refl)))
  ];
  slots = λ j lj. elim (cases_lt j (length ends)) [
    | inl l ↦ slots_old tallies t ends (length marks + count) j h.len l (h.slots j l)
    | inr g ↦ rw (at_end j lj g) (slots_new tallies t ends (length marks) count h.len h.whole slots_is)
  ];
} where
  size : length (marks ++ replicate count Current) ≡ length marks + count
  size = omega (arith, length-append marks (replicate count Current), fresh_length count)

  more : length (ends ++ (length marks + count) ∷ []) ≡ length ends + 1
  more = length-append ends ((length marks + count) ∷ [])

  at_end : (j : ℕ) → j < length (ends ++ (length marks + count) ∷ []) → length ends ≤ j → j ≡ length ends
  at_end j lj g = omega (arith, lj, more, g)

  within : (j : ℕ) → j < length (ends ++ (length marks + count) ∷ [])
      → end_at (ends ++ (length marks + count) ∷ []) j ≤ length (marks ++ replicate count Current)
  within j lj = elim (cases_lt j (length ends)) [
    | inl l ↦ omega (arith, end_old ends (length marks + count) j l, h.within j l, size)
    | inr g ↦ rw (at_end j lj g) (omega (arith, end_new ends (length marks + count), size))
  ]

pub add_counts : (tallies : List Tally) (ends : List ℕ) (pages : List LogPageCounts) (k : ℕ) (t : Tally) (c : LogPageCounts)
    → AreCounts pages ends tallies → k < length ends → start_at ends k ≤ length tallies → length tallies < end_at ends k
    → AreRuns ends (length tallies + 1)
    → c.live ≡ (counts_at pages k).live + bit (is_live t) → c.valid ≡ (counts_at pages k).valid + bit (is_valid t)
    → AreCounts (slice_set pages k c) ends (tallies ++ t ∷ [])
add_counts tallies ends pages k t c h lk s e runs live valid = record {
  runs = subst (λ (n : ℕ). AreRuns ends n) (sym (length-append tallies (t ∷ []))) runs;
  len = grind (arith, common_steps, h.len);
  live = push_counts (λ c. c.live) is_live tallies t pages ends k c h.runs h.len lk s e h.live live;
  valid = push_counts (λ c. c.valid) is_valid tallies t pages ends k c h.runs h.len lk s e h.valid valid;
}

-- what a page's counts count is there
pub record CountsPage (c : LogPageCounts) (t : Tally) : Type 0 where
  pub live : bit (is_live t) ≤ c.live
  pub valid : bit (is_valid t) ≤ c.valid

pub counts_page : {tallies : List Tally} {ends : List ℕ} {pages : List LogPageCounts} {i k : ℕ} {c : LogPageCounts} → AreCounts pages ends tallies
    → IsInRun ends i k → i < length tallies → c ≡ slice_index_or pages k c
    → CountsPage c (tally_at tallies i)
counts_page {tallies} {ends} {pages} {i} {k} {c} h at lt is =
    let lk : k < length pages = omega (arith, at.within, h.len) in
    let b : c ≡ counts_at pages k = at_index pages k c no_counts is lk in
    record {
      live = rw b (counted is_live no_tally tallies ends k i (counts_at pages k).live refl (h.live k at.within) lt at.start at.end);
      valid = rw b (counted is_valid no_tally tallies ends k i (counts_at pages k).valid refl (h.valid k at.within) lt at.start at.end);
    }

pub few_live : (tallies : List Tally) (ends : List ℕ) (pages : List LogPageCounts) (k : ℕ) (c : LogPageCounts) → AreCounts pages ends tallies
    → k < length ends → c ≡ slice_index_or pages k c
    → (c.live ≤ length tallies) × (c.valid ≤ length tallies)
few_live tallies ends pages k c h lk is =
    let b : c ≡ counts_at pages k = at_index pages k c no_counts is (omega (arith, lk, h.len)) in
    rw b (
      few is_live tallies (start_at ends k) (end_at ends k) (counts_at pages k).live (h.live k lk),
      few is_valid tallies
          (start_at ends k) (end_at ends k) (counts_at pages k).valid (h.valid k lk),
    )
