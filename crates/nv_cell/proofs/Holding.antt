-- Which living snapshots hold a part that has ended, found by halving.
use Rattle.std.proofs.Common.{◌≡◌, ℕ, zero, suc, ◌+◌, ◌<◌, ◌≤◌, ◌&&◌, ◌⊎◌, inl, inr, ◌||◌, Bool, true, false, nat_le, nat_lt, ltb, List, [], ◌∷◌, length, get_or, arith, refl, sym}
use Rattle.std.specs.List.{list_any}
use Rattle.std.specs.List.Sorted.{IsNonDecreasingBy, IsPartitionPoint, IsStrictlyIncreasing}
use Rattle.std.proofs.lemmas.List.{get_or_default}
use Rattle.std.proofs.lemmas.List.Sorted.{IsNonDecreasingBy-from_all_adjacent}
use Rattle.std.proofs.lemmas.Bool.{cases_lt, le-leb, le-ltb, lt-leb, lt-ltb, ltb-false, ltb-true}

abbrev holds : ℕ → ℕ → ℕ → Bool
holds birth death s = nat_le birth s && nat_lt s death

-- the first that is not before the birth is at place `k`, and none is below it
record IsFirst (birth k : ℕ) (living : List ℕ) : Type 0 where
  before : (j : ℕ) → j < k → j < length living → get_or living j 0 < birth
  behind : (j : ℕ) → k ≤ j → j < length living → birth ≤ get_or living j 0
  rising : (j : ℕ) → k ≤ j → j < length living → get_or living k 0 ≤ get_or living j 0

-- one that does not hold it changes nothing
skips : (b c : Bool) → b ≡ false → ((c && false) || b) ≡ false
skips b true h = h
skips b false h = h

none_behind : (birth death first : ℕ) (ts : List ℕ) → death ≤ first → ((j : ℕ) → j < length ts → first ≤ get_or ts j 0)
    → list_any (holds birth death) ts ≡ false
none_behind birth death first [] late above = refl
none_behind birth death first (t ∷ ts) late above =
    rw (le-ltb t death (omega (arith, late, above 0 (omega arith))))
    (skips (list_any (holds birth death) ts) (nat_le birth t)
    (none_behind birth death first ts late (λ j lt. above (suc j) (omega (arith, lt)))))

none_from : (birth death k : ℕ) (living : List ℕ) → IsFirst birth k living → death ≤ get_or living k 0
    → list_any (holds birth death) living ≡ false
none_from birth death k [] is late = refl
none_from birth death zero (s ∷ living) is late =
    none_behind birth death s (s ∷ living) late (λ j lt. is.rising j (omega arith) lt)
none_from birth death (suc k) (s ∷ living) is late =
    let low : nat_le birth s ≡ false = lt-leb birth s (is.before 0 (omega arith) (omega arith)) in
    rw low (none_from birth death k living (record {
      before = λ j lt in'. is.before (suc j) (omega (arith, lt)) (omega (arith, in'));
      behind = λ j le in'. is.behind (suc j) (omega (arith, le)) (omega (arith, in'));
      rising = λ j le in'. is.rising (suc j) (omega (arith, le)) (omega (arith, in'));
    }) late)

one_at : (birth death k : ℕ) (living : List ℕ) → k < length living → birth ≤ get_or living k 0 → get_or living k 0 < death
    → list_any (holds birth death) living ≡ true
one_at birth death k [] lt from to = absurd (omega (arith, lt))
one_at birth death zero (s ∷ living) lt from to = rw (le-leb birth s from, lt-ltb s death to) refl
one_at birth death (suc k) (s ∷ living) lt from to =
    go (holds birth death s) (one_at birth death k living (omega (arith, lt)) from to) where
      go : (b : Bool) → list_any (holds birth death) living ≡ true → (b || list_any (holds birth death) living) ≡ true
      go true h = refl
      go false h = h

module _ (birth death k : ℕ) (living : List ℕ) (rises : IsStrictlyIncreasing living)
    (parts : IsPartitionPoint (λ s. ltb s birth ≡ true) (λ s. ltb s birth ≡ false) living k) where
  above : (j : ℕ) → k ≤ j → j < length living → get_or living k 0 ≤ get_or living j 0
  above j le lt = go j (omega arith) le lt where
    go : (n : ℕ) → n ≤ j → k ≤ n → n < length living → get_or living k 0 ≤ get_or living n 0
    go zero small from lt = let same : k ≡ 0 = omega (arith, from) in rw same (omega arith)
    go (suc n) small from lt = by (cases_lt n k) (λ more. go n (omega (arith, small)) more (omega (arith, lt))) where
      by : (n < k) ⊎ (k ≤ n) → (k ≤ n → get_or living k 0 ≤ get_or living n 0) → get_or living k 0 ≤ get_or living (suc n) 0
      by (inl first) rest = let same : k ≡ suc n = omega (arith, first, from) in rw same (omega arith)
      by (inr more) rest =
          let next : n + 1 ≡ suc n = omega arith in
          let up = rw next at (rises n (omega (arith, lt))) in
          omega (arith, rest more, up)

  first : IsFirst birth k living
  first = record {
    before = λ j lt in'. ltb-true (get_or living j 0) birth (parts.0 j 0 (omega arith) lt);
    behind = λ j le in'. ltb-false (get_or living j 0) birth (parts.1 j 0 le in');
    rising = above;
  }

  pub held_by : k < length living → get_or living k 0 < death → list_any (holds birth death) living ≡ true
  held_by lt to = one_at birth death k living lt (first.behind k (omega arith) lt) to

  pub unheld_by : death ≤ get_or living k 0 → list_any (holds birth death) living ≡ false
  unheld_by late = none_from birth death k living first late

  pub unheld_past : length living ≤ k → list_any (holds birth death) living ≡ false
  unheld_past past = all living (λ j lt. first.before j (omega (arith, lt, past)) lt) where
    all : (ts : List ℕ) → ((j : ℕ) → j < length ts → get_or ts j 0 < birth) → list_any (holds birth death) ts ≡ false
    all [] low = refl
    all (t ∷ ts) low = rw (lt-leb birth t (low 0 (omega arith))) (all ts (λ j lt. low (suc j) (omega (arith, lt))))

  -- whether the snapshot at the place is before the death, is whether one holds it
  pub tells : (b : Bool) → k < length living → (b ≡ true → get_or living k 0 < death) → (b ≡ false → death ≤ get_or living k 0)
      → b ≡ list_any (holds birth death) living
  tells true lt early late = sym (held_by lt (early refl))
  tells false lt early late = sym (unheld_by (late refl))

-- what rises does not fall
pub climbs : (living : List ℕ) → IsStrictlyIncreasing living → IsNonDecreasingBy (λ s. s) living
climbs living rises =
    IsNonDecreasingBy-from_all_adjacent (λ s. s) living (λ k d lt.
    let up = rises k lt in
    omega (arith, up, get_or_default living k d 0 (omega (arith, lt)), get_or_default living (k + 1) d 0 lt))
