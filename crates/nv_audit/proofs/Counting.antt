-- How often a number stands in lists that each of several numbers gives.
use Rattle.std.proofs.Common.{◌≡◌, ◌≢◌, ℕ, zero, suc, ◌+◌, ◌*◌, ◌<◌, ◌≤◌, ◌==◌, Bool, true, false, cond, List, [], ◌∷◌, length, arith, refl, ap, sym, ◌∙◌}
use Rattle.std.specs.List.{flat_map, range_with_len}
use Rattle.std.proofs.lemmas.Bool.{eq-eqb, eqb-false, eqb-true, false≢true}
use Rattle.std.proofs.lemmas.List.FromFn.{length-range_with_len}
use Rattle.nv_alloc.specs.Numbers.{has, times}
use Rattle.nv_alloc.proofs.Lists.{has-times, times-append, times-cons, times-no, times-yes}
use Rattle.nv_audit.specs.Tree.{IsOnce}

-- ---- whether a number stands in a list, and how often

pub none_if_not : (n : ℕ) (ns : List ℕ) → has ns n ≡ false → times n ns ≡ 0
none_if_not n [] h = refl
none_if_not n (m ∷ ms) h = go (m == n) refl (none_if_not n ms) where
  go : (b : Bool) → (m == n) ≡ b → (has ms n ≡ false → times n ms ≡ 0) → times n (m ∷ ms) ≡ 0
  go true q ih = let yes : has (m ∷ ms) n ≡ true = rw q refl in absurd (false≢true (sym h ∙ yes))
  go false q ih = let same : has (m ∷ ms) n ≡ has ms n = rw q refl in times-no n m ms q ∙ ih (sym same ∙ h)

pub some_if_has : (n : ℕ) (ns : List ℕ) → has ns n ≡ true → 1 ≤ times n ns
some_if_has n ns h = go (times n ns) refl where
  go : (t : ℕ) → times n ns ≡ t → 1 ≤ times n ns
  go zero e = absurd (false≢true (sym (has-times n ns e) ∙ h))
  go (suc t) e = omega (arith, e)

pub has_if_some : (n : ℕ) (ns : List ℕ) → 1 ≤ times n ns → has ns n ≡ true
has_if_some n ns some = go (has ns n) refl where
  go : (b : Bool) → has ns n ≡ b → has ns n ≡ true
  go true e = e
  go false e = absurd (let none = none_if_not n ns e in omega (arith, none, some))

pub times_first : (n : ℕ) (ns : List ℕ) → times n (n ∷ ns) ≡ 1 + times n ns
times_first n ns = times-yes n n ns (eq-eqb n n refl)

-- ---- a list without one number

abbrev without : ℕ → List ℕ → List ℕ
without a [] = []
without a (x ∷ xs) = cond (x == a) (without a xs) (x ∷ without a xs)

module _ (f : ℕ → List ℕ) (m : ℕ) where
  abbrev all : List ℕ → ℕ
  all xs = times m (flat_map f xs)

  all_cons : (x : ℕ) (xs : List ℕ) → all (x ∷ xs) ≡ times m (f x) + all xs
  all_cons x xs = times-append m (f x) (flat_map f xs)

  -- those of one number apart
  apart : (a : ℕ) (xs : List ℕ) → all xs ≡ times a xs * times m (f a) + all (without a xs)
  apart a [] = omega arith
  apart a (x ∷ xs) = go (x == a) refl (apart a xs) where
    go : (b : Bool) → (x == a) ≡ b → all xs ≡ times a xs * times m (f a) + all (without a xs)
        → all (x ∷ xs) ≡ times a (x ∷ xs) * times m (f a) + all (cond b (without a xs) (x ∷ without a xs))
    go true e rest =
        let same : times m (f x) ≡ times m (f a) = ap (λ (k : ℕ). times m (f k)) (eqb-true x a e) in
        let count : times a (x ∷ xs) * times m (f a) ≡ (1 + times a xs) * times m (f a) =
        ap (λ (k : ℕ). k * times m (f a)) (times-yes a x xs e) in
        let two : (1 + times a xs) * times m (f a) ≡ times m (f a) + times a xs * times m (f a) = omega arith in
        omega (arith, all_cons x xs, same, count, two, rest)
    go false e rest =
        let count : times a (x ∷ xs) * times m (f a) ≡ times a xs * times m (f a) =
        ap (λ (k : ℕ). k * times m (f a)) (times-no a x xs e) in
        omega (arith, all_cons x xs, all_cons x (without a xs), count, rest)

  -- none where none of them gives it
  none_of : (xs : List ℕ) → ((n : ℕ) → 1 ≤ times n xs → 1 ≤ times m (f n) → ⊥) → all xs ≤ 0
  none_of [] never = omega arith
  none_of (x ∷ xs) never =
      go (times m (f x)) refl (none_of xs (λ n some. never n (omega (arith, some, times-cons n x xs)))) where
        go : (t : ℕ) → times m (f x) ≡ t → all xs ≤ 0 → all (x ∷ xs) ≤ 0
        go zero e rest = omega (arith, all_cons x xs, e, rest)
        go (suc t) e rest = absurd (never x (let first = times_first x xs in omega (arith, first)) (omega (arith, e)))

  -- what one of them gives is among what all give
  pub one_of : (a : ℕ) (xs : List ℕ) → 1 ≤ times a xs → times m (f a) ≤ all xs
  one_of a [] some = absurd (omega (arith, some))
  one_of a (x ∷ xs) some = go (x == a) refl (one_of a xs) where
    go : (b : Bool) → (x == a) ≡ b → (1 ≤ times a xs → times m (f a) ≤ all xs) → times m (f a) ≤ all (x ∷ xs)
    go true e ih =
        let same : times m (f x) ≡ times m (f a) = ap (λ (k : ℕ). times m (f k)) (eqb-true x a e) in
        omega (arith, all_cons x xs, same)
    go false e ih =
        let less = ih (omega (arith, some, times-no a x xs e)) in
        omega (arith, all_cons x xs, less)

  -- what two of them give is among what all give
  pub two_of : (a b : ℕ) (xs : List ℕ) → a ≢ b → 1 ≤ times a xs → 1 ≤ times b xs → times m (f a) + times m (f b) ≤ all xs
  two_of a b [] ne some too = absurd (omega (arith, some))
  two_of a b (x ∷ xs) ne some too = go (x == a) refl (x == b) refl (two_of a b xs ne) where
    gives : (c : ℕ) → (x == c) ≡ true → times m (f x) ≡ times m (f c)
    gives c e = ap (λ (k : ℕ). times m (f k)) (eqb-true x c e)

    go : (p : Bool) → (x == a) ≡ p → (q : Bool) → (x == b) ≡ q
        → (1 ≤ times a xs → 1 ≤ times b xs → times m (f a) + times m (f b) ≤ all xs)
        → times m (f a) + times m (f b) ≤ all (x ∷ xs)
    go true e true d ih = absurd (ne (sym (eqb-true x a e) ∙ eqb-true x b d))
    go true e false d ih =
        let left = one_of b xs (omega (arith, too, times-no b x xs d)) in
        omega (arith, all_cons x xs, gives a e, left)
    go false e true d ih =
        let left = one_of a xs (omega (arith, some, times-no a x xs e)) in
        omega (arith, all_cons x xs, gives b d, left)
    go false e false d ih =
        let left = ih (omega (arith, some, times-no a x xs e)) (omega (arith, too, times-no b x xs d)) in
        omega (arith, all_cons x xs, left)

times_without : (a n : ℕ) (xs : List ℕ) → times n (without a xs) ≤ times n xs
times_without a n [] = omega arith
times_without a n (x ∷ xs) = go (x == a) (times_without a n xs) where
  go : (b : Bool) → times n (without a xs) ≤ times n xs
      → times n (cond b (without a xs) (x ∷ without a xs)) ≤ times n (x ∷ xs)
  go true le = omega (arith, le, times-cons n x xs)
  go false le = omega (arith, le, times-cons n x xs, times-cons n x (without a xs))

none_without : (a : ℕ) (xs : List ℕ) → times a (without a xs) ≡ 0
none_without a [] = refl
none_without a (x ∷ xs) = go (x == a) refl (none_without a xs) where
  go : (b : Bool) → (x == a) ≡ b → times a (without a xs) ≡ 0
      → times a (cond b (without a xs) (x ∷ without a xs)) ≡ 0
  go true e none = none
  go false e none = times-no a x (without a xs) e ∙ none

-- a number stands in what numbers give no more often than in what others give, where each of the first stands once,
-- and among the others if it gives that number
pub covered : (f : ℕ → List ℕ) (m : ℕ) (xs ys : List ℕ) → IsOnce xs
    → ((n : ℕ) → 1 ≤ times n xs → 1 ≤ times m (f n) → 1 ≤ times n ys) → times m (flat_map f xs) ≤ times m (flat_map f ys)
covered f m xs [] once among =
    none_of f m xs (λ n some gives. let no : 1 ≤ times n [] = among n some gives in omega (arith, no))
covered f m xs (y ∷ ys) once among =
    let rest = covered f m (without y xs) ys (λ n. omega (arith, once n, times_without y n xs))
    (λ n some gives. later n some gives (y == n) refl) in
    let first = few (times y xs) refl (once y) in
    omega (arith, apart f m y xs, first, rest, all_cons f m y ys)
  where
    few : (t : ℕ) → times y xs ≡ t → times y xs ≤ 1 → times y xs * times m (f y) ≤ times m (f y)
    few zero e le = let none : times y xs * times m (f y) ≡ 0 * times m (f y) = ap (λ (k : ℕ). k * times m (f y)) e in omega (arith, none)
    few (suc t) e le =
        let one : times y xs ≡ 1 = omega (arith, e, le) in
        let same : times y xs * times m (f y) ≡ 1 * times m (f y) = ap (λ (k : ℕ). k * times m (f y)) one in omega (arith, same)

    later : (n : ℕ) → 1 ≤ times n (without y xs) → 1 ≤ times m (f n) → (b : Bool) → (y == n) ≡ b → 1 ≤ times n ys
    later n some gives true e = absurd (
        let none = none_without y xs in
        let same : times n (without y xs) ≡ times y (without y xs) = ap (λ (k : ℕ). times k (without y xs)) (sym (eqb-true y n e)) in
        omega (arith, some, none, same))
    later n some gives false e =
        let is = among n (omega (arith, some, times_without y n xs)) gives in
        omega (arith, is, times-no n y ys e)

-- ---- ranges

pub range_has : (a k n : ℕ) → a ≤ n → n < a + k → 1 ≤ times n (range_with_len a k)
range_has a zero n low high = absurd (omega (arith, low, high))
range_has a (suc k) n low high =
    go (a == n) refl (λ above. range_has (a + 1) k n above (omega (arith, high))) where
      go : (b : Bool) → (a == n) ≡ b → (a + 1 ≤ n → 1 ≤ times n (range_with_len (a + 1) k)) → 1 ≤ times n (range_with_len a (suc k))
      go true e ih = let yes = times-yes n a (range_with_len (a + 1) k) e in omega (arith, yes)
      go false e ih =
          let ne = eqb-false a n e in
          let is = ih (omega (arith, low, ne)) in
          let no = times-no n a (range_with_len (a + 1) k) e in omega (arith, no, is)

range_none : (a k n : ℕ) → n < a → times n (range_with_len a k) ≡ 0
range_none a zero n below = refl
range_none a (suc k) n below =
    go (a == n) refl (range_none (a + 1) k n (omega (arith, below))) where
      go : (b : Bool) → (a == n) ≡ b → times n (range_with_len (a + 1) k) ≡ 0 → times n (range_with_len a (suc k)) ≡ 0
      go true e ih = absurd (let is = eqb-true a n e in omega (arith, is, below))
      go false e ih = times-no n a (range_with_len (a + 1) k) e ∙ ih

pub range_once : (a k : ℕ) → IsOnce (range_with_len a k)
range_once a zero n = omega arith
range_once a (suc k) n = go (a == n) refl (range_once (a + 1) k n) where
  go : (b : Bool) → (a == n) ≡ b → times n (range_with_len (a + 1) k) ≤ 1 → times n (range_with_len a (suc k)) ≤ 1
  go true e ih =
      let is = eqb-true a n e in
      let none = range_none (a + 1) k n (omega (arith, is)) in
      let yes = times-yes n a (range_with_len (a + 1) k) e in omega (arith, yes, none)
  go false e ih = let no = times-no n a (range_with_len (a + 1) k) e in omega (arith, no, ih)

ones : (xs : List ℕ) → times 0 (flat_map (λ n. 0 ∷ []) xs) ≡ length xs
ones [] = refl
ones (x ∷ xs) = let one = times-yes 0 0 (flat_map (λ n. 0 ∷ []) xs) refl in omega (arith, one, ones xs)

-- numbers below a bound, each once, are not more than the bound
pub few_below : (k : ℕ) (xs : List ℕ) → IsOnce xs → ((n : ℕ) → 1 ≤ times n xs → n < k) → length xs ≤ k
few_below k xs once below =
    let most = covered (λ n. 0 ∷ []) 0 xs (range_with_len 0 k) once
    (λ n some gives. range_has 0 k n (omega arith) (let low = below n some in omega (arith, low))) in
    omega (arith, most, ones xs, ones (range_with_len 0 k), length-range_with_len 0 k)
