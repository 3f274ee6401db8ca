-- Elements of lists.
use Rattle.std.proofs.Common.{◌≡◌, ◌≢◌, ◌⊎◌, inl, inr, ℕ, zero, suc, ◌≤◌, List, [], ◌∷◌, ◌++◌, get_or, arith, refl, ap, sym, ◌∙◌}
use Rattle.std.proofs.lemmas.Grind.{in_remove}
use Rattle.std.proofs.lemmas.List.{get_or_read}
use Rattle.std.proofs.lemmas.List.Elements.{All-append, All-contains_itself, All-weaker, Contains-append_cases}
use Rattle.std.proofs.lemmas.List.Kept.{AllPairs-cons}
use Rattle.std.proofs.lemmas.List.Sums.{sum_by-cons, sum_by-remove}
use Rattle.std.specs.List.{All, AllPairs, Contains, flat_map, remove, sum_by}

pub contains_first : {X : Type 0} (x : X) (xs : List X) → Contains (x ∷ xs) x
contains_first x xs = (zero, omega arith, refl)

pub contains_later : {X : Type 0} (x y : X) (xs : List X) → Contains xs x → Contains (y ∷ xs) x
contains_later x y xs at = (suc at.0, omega (arith, at.1), at.2)

pub contains_none : {X : Type 0} (x : X) → Contains [] x → ⊥
contains_none x at = omega (arith, at.1)

pub contains_cases : {X : Type 0} (x y : X) (xs : List X) → Contains (y ∷ xs) x → (y ≡ x) ⊎ Contains xs x
contains_cases x y xs (zero, lt, is) = inl is
contains_cases x y xs (suc k, lt, is) = inr (k, omega (arith, lt), is)

-- what stands below some elements stands below one of them
pub contains_below : {X Y : Type 0} (f : X → List Y) (xs : List X) (y : Y) → Contains (flat_map f xs) y → (x : X) × (Contains xs x)
    × (Contains (f x) y)
contains_below f [] y at = absurd (contains_none y at)
contains_below f (x ∷ xs) y at = elim (Contains-append_cases (f x) (flat_map f xs) y at) [
  | inl here ↦ (x, contains_first x xs, here)
  | inr later ↦ let below = contains_below f xs y later in (below.0, contains_later below.0 x xs below.1, below.2)
]

pub all_from : {X : Type 0} (P : X → Type 0) (xs : List X) → ((x : X) → Contains xs x → P x) → All P xs
all_from P xs each = All-weaker (Contains xs) P each xs (All-contains_itself xs)

-- ---- pairs

pub pairs_later : {X : Type 0} (R : X → X → Type 0) (x : X) (xs : List X) → AllPairs R (x ∷ xs) → AllPairs R xs
pairs_later R x xs pairs = λ i j d lt le. pairs (suc i) (suc j) d (omega (arith, lt)) (omega (arith, le))

pub pairs_first : {X : Type 0} (R : X → X → Type 0) (x : X) (xs : List X) → AllPairs R (x ∷ xs) → All (R x) xs
pairs_first R x xs pairs = λ k d lt. pairs zero (suc k) d (omega arith) (omega (arith, lt))

pub pairs_append : {X : Type 0} (R : X → X → Type 0) (xs ys : List X) → AllPairs R xs → AllPairs R ys
    → ((x y : X) → Contains xs x → Contains ys y → R x y) → AllPairs R (xs ++ ys)
pairs_append R [] ys one other across = other
pairs_append R (x ∷ xs) ys one other across =
    AllPairs-cons R x (xs ++ ys)
    (All-append (R x) xs ys (pairs_first R x xs one) (all_from (R x) ys (λ y at. across x y (contains_first x xs) at)))
    (pairs_append R xs ys (pairs_later R x xs one) other (λ a b at there. across a b (contains_later a x xs at) there))

-- ---- sums

-- elements that differ, each of which stands in a list, have no larger sum than the list
pub sum_within : {X : Type 0} (f : X → ℕ) (xs all : List X) → AllPairs (λ x y. x ≢ y) xs → ((x : X) → Contains xs x → Contains all x)
    → sum_by f xs ≤ sum_by f all
sum_within f [] all differ each = omega arith
sum_within {X} f (x ∷ xs) all differ each =
    let at : Contains all x = each x (contains_first x xs) in
    let rest : sum_by f xs ≤ sum_by f (remove all at.0) =
    sum_within f xs (remove all at.0) (pairs_later (λ x y. x ≢ y) x xs differ)
    (λ y there. stays y there at (each y (contains_later y x xs there))) in
    omega (arith, rest, sum_by-cons f x xs, sum_by-remove f all at.0 x at.1, ap f at.2)
  where
    stays : (y : X) → Contains xs y → (at : Contains all x) → (there : Contains all y) → Contains (remove all at.0) y
    stays y in' at there = (in_remove all at.0 there.0 y at.1 there.1 (sym there.2) other).1 where
      other : there.0 ≢ at.0
      other same =
          let is : x ≡ y = get_or_read all at.0 x at.1 (sym at.2) y ∙ ap (λ (k : ℕ). get_or all k y) (sym same) ∙ there.2 in
          pairs_first (λ x y. x ≢ y) x xs differ in'.0 y in'.1 (is ∙ sym in'.2)
