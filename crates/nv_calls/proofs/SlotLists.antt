-- A number that is put in its place in a rising list.
use Rattle.std.proofs.Common.{rules, ◌≡◌, ℕ, zero, suc, ◌+◌, ◌<◌, ◌≤◌, ◌∙◌, Bool, true, false, List, [], ◌∷◌, ap, arith, if◌then◌else◌, length, nat_lt, refl, subst, sym, take, length-take}
use Rattle.std.specs.Prelude.{◌==◌, AllPairs, insert, slice_index_or}
use Rattle.std.proofs.lemmas.Bool.{ltb-false, ltb-true}
use Rattle.std.proofs.lemmas.List.{get_or-take}
use Rattle.std.proofs.lemmas.Grind.{get_or_default_zero}
use Rattle.nv_calls.specs.Locked.{with_slot}

same_lists : (xs ys : List ℕ) → length xs ≡ length ys → ((k : ℕ) → k < length xs → slice_index_or xs k 0 ≡ slice_index_or ys k 0) → xs ≡ ys
same_lists [] [] same each = refl
same_lists [] (y ∷ ys) same each = absurd (omega (arith, same))
same_lists (x ∷ xs) [] same each = absurd (omega (arith, same))
same_lists (x ∷ xs) (y ∷ ys) same each =
    let head : x ≡ y = each 0 (omega arith) in
    let tail : xs ≡ ys = same_lists xs ys (omega (arith, same)) (λ k lt. each (suc k) (omega (arith, lt))) in
    cc

-- what an insertion has at each place
insert_front : (xs : List ℕ) (place n k : ℕ) → k < place → place ≤ length xs
    → slice_index_or (insert xs place n) k 0 ≡ slice_index_or xs k 0
insert_front xs zero n k lt few = absurd (omega (arith, lt))
insert_front [] (suc place) n k lt few = absurd (omega (arith, few))
insert_front (x ∷ xs) (suc place) n zero lt few = refl
insert_front (x ∷ xs) (suc place) n (suc k) lt few = insert_front xs place n k (omega (arith, lt)) (omega (arith, few))

insert_here : (xs : List ℕ) (place n : ℕ) → place ≤ length xs → slice_index_or (insert xs place n) place 0 ≡ n
insert_here xs zero n few = refl
insert_here [] (suc place) n few = absurd (omega (arith, few))
insert_here (x ∷ xs) (suc place) n few = insert_here xs place n (omega (arith, few))

insert_rest : (xs : List ℕ) (place n k : ℕ) → place ≤ k → place ≤ length xs
    → slice_index_or (insert xs place n) (suc k) 0 ≡ slice_index_or xs k 0
insert_rest xs zero n k le few = refl
insert_rest [] (suc place) n k le few = absurd (omega (arith, few))
insert_rest (x ∷ xs) (suc place) n zero le few = absurd (omega (arith, le))
insert_rest (x ∷ xs) (suc place) n (suc k) le few = insert_rest xs place n k (omega (arith, le)) (omega (arith, few))

insert_length : (xs : List ℕ) (place n : ℕ) → place ≤ length xs → length (insert xs place n) ≡ suc (length xs)
insert_length xs zero n few = refl
insert_length [] (suc place) n few = absurd (omega (arith, few))
insert_length (x ∷ xs) (suc place) n few = ap suc (insert_length xs place n (omega (arith, few)))

-- ---- the machine's way

above_here : (n m : ℕ) (one two three : List ℕ) → n < m → (if n == m then one else if nat_lt n m then two else three) ≡ two
above_here n m one two three lt = search (rules, lt)

below_here : (n m : ℕ) (one two three : List ℕ) → m < n → (if n == m then one else if nat_lt n m then two else three) ≡ three
below_here n m one two three lt = search (rules, lt)

same_here : (n m : ℕ) (one two three : List ℕ) → n ≡ m → (if n == m then one else if nat_lt n m then two else three) ≡ one
same_here n m one two three e = search (rules, e)

pub with_new : (xs : List ℕ) (n place : ℕ) → place ≤ length xs → ((k : ℕ) → k < place → slice_index_or xs k 0 < n)
    → (place < length xs → n < slice_index_or xs place 0) → with_slot n xs ≡ insert xs place n
with_new [] n zero few before there = refl
with_new [] n (suc place) few before there = absurd (omega (arith, few))
with_new (m ∷ xs) n zero few before there = above_here n m (m ∷ xs) (n ∷ m ∷ xs) (m ∷ with_slot n xs) (there (omega arith))
with_new (m ∷ xs) n (suc place) few before there =
    below_here n m (m ∷ xs) (n ∷ m ∷ xs) (m ∷ with_slot n xs) (before 0 (omega arith))
    ∙ ap (λ (rest : List ℕ). m ∷ rest)
    (with_new xs n place (omega (arith, few)) (λ k lt. before (suc k) (omega (arith, lt))) (λ lt. there (omega (arith, lt))))

pub with_known : (xs : List ℕ) (n place : ℕ) → place < length xs → ((k : ℕ) → k < place → slice_index_or xs k 0 < n)
    → slice_index_or xs place 0 ≡ n → with_slot n xs ≡ xs
with_known [] n place few before there = absurd (omega (arith, few))
with_known (m ∷ xs) n zero few before there = same_here n m (m ∷ xs) (n ∷ m ∷ xs) (m ∷ with_slot n xs) (sym there)
with_known (m ∷ xs) n (suc place) few before there =
    below_here n m (m ∷ xs) (n ∷ m ∷ xs) (m ∷ with_slot n xs) (before 0 (omega arith))
    ∙ ap (λ (rest : List ℕ). m ∷ rest) (with_known xs n place (omega (arith, few)) (λ k lt. before (suc k) (omega (arith, lt))) there)

-- ---- the code's way

-- the numbers behind a place are moved up by one, and the number is put there
pub record IsShifted (old new : List ℕ) (place n count : ℕ) : Type 0 where
  pub room : count < length old
  pub within : place ≤ count
  pub many : length new ≡ length old
  pub front : (k : ℕ) → k < place → slice_index_or new k 0 ≡ slice_index_or old k 0
  pub here : slice_index_or new place 0 ≡ n
  pub rest : (k : ℕ) → place ≤ k → k < count → slice_index_or new (suc k) 0 ≡ slice_index_or old k 0

pub shifted : (old new : List ℕ) (place n count : ℕ) → IsShifted old new place n count
    → take (count + 1) new ≡ insert (take count old) place n
shifted old new place n count s =
    let many : length (take count old) ≡ count = omega (arith, length-take count old, s.room) in
    let long : length (take (count + 1) new) ≡ count + 1 = omega (arith, length-take (count + 1) new, s.room, s.many) in
    let few : place ≤ length (take count old) = omega (arith, many, s.within) in
    same_lists (take (count + 1) new) (insert (take count old) place n)
    (omega (arith, long, many, insert_length (take count old) place n few))
    (λ k lt. at k (omega (arith, lt, long)) few (nat_lt k place) refl) where
      at : (k : ℕ) → k < count + 1 → place ≤ length (take count old) → (b : Bool) → nat_lt k place ≡ b
          → slice_index_or (take (count + 1) new) k 0 ≡ slice_index_or (insert (take count old) place n) k 0
      at k lt few true q =
          let low = ltb-true k place q in
          get_or-take (count + 1) new k 0 lt ∙ s.front k low ∙ sym (get_or-take count old k 0 (omega (arith, low, s.within)))
          ∙ sym (insert_front (take count old) place n k low few)
      at k lt few false q = high k lt few (ltb-false k place q) (nat_lt place k) refl where
        high : (k : ℕ) → k < count + 1 → place ≤ length (take count old) → place ≤ k → (b : Bool) → nat_lt place k ≡ b
            → slice_index_or (take (count + 1) new) k 0 ≡ slice_index_or (insert (take count old) place n) k 0
        high zero lt few le true q = absurd (omega (arith, ltb-true place zero q))
        high (suc k) lt few le true q =
            let up = ltb-true place (suc k) q in
            get_or-take (count + 1) new (suc k) 0 lt ∙ s.rest k (omega (arith, up)) (omega (arith, lt))
            ∙ sym (get_or-take count old k 0 (omega (arith, lt))) ∙ sym (insert_rest (take count old) place n k (omega (arith, up)) few)
        high k lt few le false q =
            let same : k ≡ place = omega (arith, ltb-false place k q, le) in
            get_or-take (count + 1) new k 0 lt ∙ ap (λ (j : ℕ). slice_index_or new j 0) same ∙ s.here
            ∙ sym (insert_here (take count old) place n few) ∙ ap (λ (j : ℕ). slice_index_or (insert (take count old) place n) j 0)
            (sym same)

-- ---- a rising list stays rising

pub rises : (xs : List ℕ) (n place : ℕ) → place ≤ length xs → AllPairs (λ a b. a < b) xs → ((k : ℕ) → k < place → slice_index_or xs k 0 < n)
    → (place < length xs → n < slice_index_or xs place 0) → AllPairs (λ a b. a < b) (insert xs place n)
rises xs n place few all before there i j d lt within =
    let many = insert_length xs place n few in
    let new = insert xs place n in
    let one : slice_index_or new i d ≡ slice_index_or new i 0 = get_or_default_zero new i d (omega (arith, lt, within)) in
    let two : slice_index_or new j d ≡ slice_index_or new j 0 = get_or_default_zero new j d within in
    let main : slice_index_or new i 0 < slice_index_or new j 0 = go i j lt (omega (arith, within, many)) (nat_lt j place) refl in
    omega (arith, one, two, main) where
      up : (i j : ℕ) → i < j → j < length xs → slice_index_or xs i 0 < slice_index_or xs j 0
      up i j lt within = all i j 0 lt within

      top : (j : ℕ) → place ≤ j → j < length xs → (b : Bool) → nat_lt place j ≡ b → n < slice_index_or xs j 0
      top j le within true q = let first = there (omega (arith, le, within)) in let more = all place j 0
          (ltb-true place j q) within in omega (arith, first, more)
      top j le within false q =
          let same : place ≡ j = omega (arith, le, ltb-false place j q) in
          subst (λ (k : ℕ). n < slice_index_or xs k 0) same (there (omega (arith, le, within)))

      low : (i j : ℕ) → i < suc j → place ≤ j → j < length xs → (b : Bool) → nat_lt i place ≡ b
          → slice_index_or (insert xs place n) i 0 < slice_index_or xs j 0
      low i j lt le within true q =
          let below = ltb-true i place q in
          let e = insert_front xs place n i below few in
          let less = all i j 0 (omega (arith, below, le)) within in omega (arith, e, less)
      low i j lt le within false q = here i j lt le within (ltb-false i place q) (nat_lt place i) refl where
        here : (i j : ℕ) → i < suc j → place ≤ j → j < length xs → place ≤ i → (b : Bool) → nat_lt place i ≡ b
            → slice_index_or (insert xs place n) i 0 < slice_index_or xs j 0
        here zero j lt le within high true r = absurd (omega (arith, ltb-true place zero r))
        here (suc i) j lt le within high true r =
            let e = insert_rest xs place n i (omega (arith, ltb-true place (suc i) r)) few in
            let less = all i j 0 (omega (arith, lt)) within in omega (arith, e, less)
        here i j lt le within high false r =
            let same : place ≡ i = omega (arith, high, ltb-false place i r) in
            let e = insert_here xs place n few in
            let less = top j le within (nat_lt place j) refl in
            subst (λ (k : ℕ). slice_index_or (insert xs place n) k 0 < slice_index_or xs j 0) same (omega (arith, e, less))

      go : (i j : ℕ) → i < j → j < suc (length xs) → (b : Bool) → nat_lt j place ≡ b
          → slice_index_or (insert xs place n) i 0 < slice_index_or (insert xs place n) j 0
      go i j lt within true q =
          let below = ltb-true j place q in
          let one = insert_front xs place n i (omega (arith, lt, below)) few in
          let two = insert_front xs place n j below few in
          let less = all i j 0 lt (omega (arith, below, few)) in omega (arith, one, two, less)
      go i j lt within false q = past i j lt within (ltb-false j place q) (nat_lt place j) refl where
        past : (i j : ℕ) → i < j → j < suc (length xs) → place ≤ j → (b : Bool) → nat_lt place j ≡ b
            → slice_index_or (insert xs place n) i 0 < slice_index_or (insert xs place n) j 0
        past i zero lt within high true r = absurd (omega (arith, ltb-true place zero r))
        past i (suc j) lt within high true r =
            let le : place ≤ j = omega (arith, ltb-true place (suc j) r) in
            let two = insert_rest xs place n j le few in
            let less = low i j lt le (omega (arith, within)) (nat_lt i place) refl in omega (arith, two, less)
        past i j lt within high false r =
            let same : place ≡ j = omega (arith, high, ltb-false place j r) in
            let one = insert_front xs place n i (omega (arith, lt, same)) few in
            let two = insert_here xs place n few in
            let less = before i (omega (arith, lt, same)) in
            subst (λ (k : ℕ). slice_index_or (insert xs place n) i 0 < slice_index_or (insert xs place n) k 0) same
            (omega (arith, one, two, less))
