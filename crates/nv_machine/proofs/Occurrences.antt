-- How often a number stands in lists that are joined, and in one of which a part is set.
use Rattle.std.proofs.Common.{List, [], ap, arith, drop, get_or, inl, inr, length, set, suc, sym, take, zero, ℕ, ◌++◌, ◌+◌, ◌<◌, ◌∙◌, ◌∷◌, ◌≡◌, ◌≤◌}
use Rattle.std.proofs.lemmas.Bool.{cases_lt}
use Rattle.std.proofs.lemmas.List.{get_or_past, set_past, take-append-drop}
use Rattle.std.specs.List.{flat_map}
use Rattle.nv_alloc.specs.Block.{BlockValue, numbers_of}
use Rattle.nv_alloc.specs.Numbers.{times}
use Rattle.nv_alloc.proofs.GivingLemmas.{times-blocks}
use Rattle.nv_alloc.proofs.Lists.{times-append}

-- ---- a part that is set

set_within : {X : Type 0} (f : X → List ℕ) (n : ℕ) (xs : List X) (i : ℕ) (y d : X) → i < length xs
    → times n (flat_map f (set xs i y)) + times n (f (get_or xs i d)) ≡ times n (flat_map f xs) + times n (f y)
set_within f n [] i y d h = absurd (omega (arith, h))
set_within f n (x ∷ xs) zero y d h =
    omega (arith, times-append n (f y) (flat_map f xs), times-append n (f x) (flat_map f xs))
set_within f n (x ∷ xs) (suc i) y d h =
    let more = set_within f n xs i y d (omega (arith, h)) in
    omega (arith, more, times-append n (f x) (flat_map f (set xs i y)), times-append n (f x) (flat_map f xs))

-- where the place is past the list, nothing is set, and what was to be there has to count as nothing there does
pub set_times : {X : Type 0} (f : X → List ℕ) (n : ℕ) (xs : List X) (i : ℕ) (y d : X)
    → (length xs ≤ i → times n (f y) ≡ times n (f d))
    → times n (flat_map f (set xs i y)) + times n (f (get_or xs i d)) ≡ times n (flat_map f xs) + times n (f y)
set_times {X} f n xs i y d past = elim (cases_lt i (length xs)) [
  | inl lt ↦ set_within f n xs i y d lt
  | inr ge ↦
      let same : set xs i y ≡ xs = set_past xs i y ge in
      let none : get_or xs i d ≡ d = get_or_past xs i d ge in
      let e = ap (λ (l : List X). times n (flat_map f l)) same in
      let g = ap (λ (x : X). times n (f x)) none in
      omega (arith, e, g, past ge)
]

-- ---- blocks that are cut in two

pub cut_times : (n k : ℕ) (blocks : List BlockValue)
    → times n (numbers_of (take k blocks)) + times n (numbers_of (drop k blocks)) ≡ times n (numbers_of blocks)
cut_times n k blocks =
    sym (times-blocks n (take k blocks) (drop k blocks)) ∙ ap (λ (l : List BlockValue). times n (numbers_of l)) (take-append-drop k blocks)

pub three_times : (n : ℕ) (a b c : List BlockValue)
    → times n (numbers_of (a ++ b ++ c)) ≡ times n (numbers_of a) + times n (numbers_of b) + times n (numbers_of c)
three_times n a b c = omega (arith, times-blocks n (a ++ b) c, times-blocks n a b)
