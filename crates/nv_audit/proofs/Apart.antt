-- Numbers of which none falls and none stands twice.
use Rattle.std.proofs.Common.{◌≡◌, ◌≢◌, ℕ, suc, ◌+◌, ◌-◌, ◌<◌, ◌≤◌, ◌==◌, ◌++◌, if◌then◌else◌, Bool, true, false, List, [], ◌∷◌, length, drop, take, get_or, arith, refl, ap, sym, ◌∙◌}
use Rattle.std.specs.List.Sorted.{IsNonDecreasing, IsPermutation}
use Rattle.std.proofs.lemmas.Bool.{eqb-true}
use Rattle.std.proofs.lemmas.List.{drop_more, get_or-take, length-take-le, take-append-drop, take_more}
use Rattle.std.proofs.lemmas.List.Sorted.{sum_by-IsPermutation}
use Rattle.nv_alloc.specs.Numbers.{times}
use Rattle.nv_alloc.proofs.Lists.{times-append, times-no, times-yes}
use Rattle.nv_audit.specs.Tree.{IsOnce}
use Rattle.nv_audit.proofs.Counting.{times_first}

-- ---- a list in another order

pub times_moved : (xs ys : List ℕ) (n : ℕ) → IsPermutation xs ys → times n ys ≡ times n xs
times_moved xs ys n moved = sum_by-IsPermutation (λ m. if m == n then 1 else 0) xs ys moved

pub once_moved : (xs ys : List ℕ) → IsPermutation xs ys → IsOnce xs → IsOnce ys
once_moved xs ys moved once n = omega (arith, times_moved xs ys n moved, once n)

pub once_back : (xs ys : List ℕ) → IsPermutation xs ys → IsOnce ys → IsOnce xs
once_back xs ys moved once n = omega (arith, times_moved xs ys n moved, once n)

-- ---- one more number

none_among : (x : ℕ) (ys : List ℕ) → ((k : ℕ) → k < length ys → get_or ys k 0 < x) → times x ys ≡ 0
none_among x [] below = refl
none_among x (y ∷ ys) below =
    go (y == x) refl (none_among x ys (λ k lt. below (suc k) (omega (arith, lt)))) where
      go : (b : Bool) → (y == x) ≡ b → times x ys ≡ 0 → times x (y ∷ ys) ≡ 0
      go true e ih = absurd (let low = below 0 (omega arith) in omega (arith, low, eqb-true y x e))
      go false e ih = times-no x y ys e ∙ ih

pub once_first : (xs : List ℕ) → IsOnce (take 1 xs)
once_first [] n = omega arith
once_first (x ∷ xs) n = go (x == n) refl where
  go : (b : Bool) → (x == n) ≡ b → times n (x ∷ []) ≤ 1
  go true e = let yes = times-yes n x [] e in omega (arith, yes)
  go false e = let no = times-no n x [] e in omega (arith, no)

module _ (xs : List ℕ) (i : ℕ) (some : 1 ≤ i) (lt : i < length xs) where
  abbrev x : ℕ
  x = get_or xs i 0

  abbrev before : ℕ
  before = get_or xs (i - 1) 0

  split : (n : ℕ) → times n (take (i + 1) xs) ≡ times n (take i xs) + times n (x ∷ [])
  split n = ap (times n) (take_more xs i 0 lt) ∙ times-append n (take i xs) (x ∷ [])

  pub once_more : IsNonDecreasing xs → before ≢ x → IsOnce (take i xs) → IsOnce (take (i + 1) xs)
  once_more rising ne once n = go (x == n) refl where
    least : before ≤ x
    least = rising (i - 1) i 0 (omega arith) lt

    go : (b : Bool) → (x == n) ≡ b → times n (take (i + 1) xs) ≤ 1
    go true e =
        let is = eqb-true x n e in
        let none = none_among n (take i xs) (λ k below.
        let len = length-take-le i xs (omega (arith, lt)) in
        let in_it : k < i = omega (arith, below, len) in
        let same = get_or-take i xs k 0 in_it in
        let low = rising k (i - 1) 0 (omega (arith, in_it)) (omega (arith, lt)) in
        omega (arith, same, low, least, ne, is)) in
        let one = times-yes n x [] e in omega (arith, split n, none, one)
    go false e = let no = times-no n x [] e in let was = once n in omega (arith, split n, no, was)

  pub twice : before ≡ x → IsOnce xs → ⊥
  twice same once =
      let all = ap (times x) (take-append-drop i xs) in
      let both = times-append x (take i xs) (drop i xs) in
      let last : take i xs ≡ take (i - 1) xs ++ before ∷ [] =
      ap (λ (k : ℕ). take k xs) (omega arith) ∙ take_more xs (i - 1) 0 (omega (arith, lt)) in
      let front = ap (times x) last ∙ times-append x (take (i - 1) xs) (before ∷ []) in
      let own = ap (λ (k : ℕ). times k (before ∷ [])) (sym same) in
      let first = times_first before [] in
      let behind = ap (times x) (drop_more xs i 0 lt) in
      let next = times_first x (drop (i + 1) xs) in
      let most = once x in
      omega (arith, all, both, front, own, first, behind, next, most)
