-- Sums of a value over the numbers below one.
use Rattle.std.proofs.Common.{◌≡◌, ℕ, zero, suc, ◌+◌, ◌<◌, ◌∙◌, Bool, true, false, List, [], ◌∷◌, ap, arith, length, nat_lt, refl}
use Rattle.std.specs.Prelude.{slice_index_or}
use Rattle.std.specs.List.{range_with_len, sum_by}
use Rattle.std.proofs.lemmas.Bool.{ltb-false, ltb-true}
use Rattle.std.proofs.lemmas.List.Sums.{sum_by-cons}

abbrev pub sum_to : ℕ → (ℕ → ℕ) → ℕ
sum_to zero f = 0
sum_to (suc k) f = f k + sum_to k f

pub sum_both : (k : ℕ) (f g h : ℕ → ℕ) → ((n : ℕ) → h n ≡ f n + g n) → sum_to k h ≡ sum_to k f + sum_to k g
sum_both zero f g h is = refl
sum_both (suc k) f g h is = let one = is k in let rest = sum_both k f g h is in omega (arith, one, rest)

pub sum_same : (k : ℕ) (f g : ℕ → ℕ) → ((n : ℕ) → n < k → f n ≡ g n) → sum_to k f ≡ sum_to k g
sum_same zero f g same = refl
sum_same (suc k) f g same =
    let one = same k (omega arith) in
    let rest = sum_same k f g (λ n lt. same n (omega (arith, lt))) in
    omega (arith, one, rest)

pub sum_first : (k : ℕ) (f : ℕ → ℕ) → sum_to (suc k) f ≡ f 0 + sum_to k (λ n. f (suc n))
sum_first zero f = refl
sum_first (suc k) f = let rest = sum_first k f in omega (arith, rest)

pub sum_none : (k : ℕ) (f : ℕ → ℕ) → ((n : ℕ) → n < k → f n ≡ 0) → sum_to k f ≡ 0
sum_none zero f none = refl
sum_none (suc k) f none =
    let one = none k (omega arith) in
    let rest = sum_none k f (λ n lt. none n (omega (arith, lt))) in
    omega (arith, one, rest)

-- of values that are 0 but for one
pub sum_one : (k n : ℕ) (f : ℕ → ℕ) → n < k → ((i : ℕ) → (i ≡ n → ⊥) → f i ≡ 0) → sum_to k f ≡ f n
sum_one zero n f lt others = absurd (omega (arith, lt))
sum_one (suc k) n f lt others = go (nat_lt n k) refl (λ below. sum_one k n f below others) where
  go : (b : Bool) → nat_lt n k ≡ b → (n < k → sum_to k f ≡ f n) → f k + sum_to k f ≡ f n
  go true e rest =
      let below = ltb-true n k e in
      let last : f k ≡ 0 = others k (λ same. omega (arith, same, below)) in
      let one = rest below in
      omega (arith, one, last)
  go false e rest =
      let last : n ≡ k = let ge = ltb-false n k e in omega (arith, lt, ge) in
      let same : f n ≡ f k = ap f last in
      let none = sum_none k f (λ i below. others i (λ q. omega (arith, q, below, last))) in
      omega (arith, same, none)

-- the sum over a list is that over its places, and so is that over numbers in a row
pub sum_list : {X : Type 0} (f : X → ℕ) (xs : List X) (d : X) → sum_to (length xs) (λ n. f (slice_index_or xs n d)) ≡ sum_by f xs
sum_list f [] d = refl
sum_list f (x ∷ xs) d =
    let first = sum_first (length xs) (λ n. f (slice_index_or (x ∷ xs) n d)) in
    let rest = sum_list f xs d in
    let all = sum_by-cons f x xs in
    omega (arith, first, rest, all)

sum_from : (f : ℕ → ℕ) (from k : ℕ) → sum_by f (range_with_len from k) ≡ sum_to k (λ n. f (from + n))
sum_from f from zero = refl
sum_from f from (suc k) =
    let on : (n : ℕ) → from + 1 + n ≡ from + suc n = λ n. omega arith in
    let here : f (from + 0) ≡ f from = let zeroth : from + 0 ≡ from = omega arith in ap f zeroth in
    let first = sum_first k (λ n. f (from + n)) in
    let rest = sum_from f (from + 1) k in
    let moved = sum_same k (λ n. f (from + 1 + n)) (λ n. f (from + suc n)) (λ n lt. ap f (on n)) in
    let all = sum_by-cons f from (range_with_len (from + 1) k) in
    omega (arith, here, first, rest, moved, all)

pub sum_range : (f : ℕ → ℕ) (k : ℕ) → sum_by f (range_with_len 0 k) ≡ sum_to k f
sum_range f k =
    let zeroth : (n : ℕ) → 0 + n ≡ n = λ n. omega arith in
    sum_from f 0 k ∙ sum_same k (λ n. f (0 + n)) f (λ n lt. ap f (zeroth n))
