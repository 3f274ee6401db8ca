-- Lists of numbers.
use Rattle.std.proofs.Common.{◌≡◌, ◌≢◌, ℕ, zero, suc, ◌+◌, ◌<◌, ◌≤◌, ◌==◌, ◌++◌, inl, inr, Bool, true, false, cond, nat_lt, List, [], ◌∷◌, length, map, get_or, take, arith, refl, zero-add, ap, ◌∙◌, subst}
use Rattle.std.proofs.lemmas.Bool.{cases_Bool, eqb-true, eq-eqb, ne_eqb, le-ltb, lt-ltb}
use Rattle.std.proofs.lemmas.List.Sums.{sum_by-append, sum_by-cons}
use Rattle.std.specs.List.{AllByRecursion}
use Rattle.nv_alloc.specs.Numbers.{IsRising, has, times, put_by}

-- what is below all of a list isn't in it
pub has-below : (n : ℕ) (ms : List ℕ) → AllByRecursion (λ m. n < m) ms → has ms n ≡ false
has-below n [] h = refl
has-below n (m ∷ ms) h = let k : m ≢ n = omega (arith, h.0) in rw (ne_eqb m n k) (has-below n ms h.1)

pub times-yes : (n m : ℕ) (ms : List ℕ) → (m == n) ≡ true → times n (m ∷ ms) ≡ 1 + times n ms
times-yes n m ms q = sum_by-cons (λ k. cond (k == n) 1 0) m ms ∙ ap (λ b. cond b 1 0 + times n ms) q

pub times-no : (n m : ℕ) (ms : List ℕ) → (m == n) ≡ false → times n (m ∷ ms) ≡ times n ms
times-no n m ms q = sum_by-cons (λ k. cond (k == n) 1 0) m ms ∙ ap (λ b. cond b 1 0 + times n ms) q ∙ zero-add (times n ms)

pub times-cons : (n m : ℕ) (ms : List ℕ) → times n (m ∷ ms) ≡ times n (m ∷ []) + times n ms
times-cons n m ms = sum_by-append (λ k. cond (k == n) 1 0) (m ∷ []) ms

pub has-first : (n : ℕ) (ns : List ℕ) → has (n ∷ ns) n ≡ true
has-first n ns = rw (eq-eqb n n refl) refl

pub has-other : (m n : ℕ) (ms : List ℕ) → m ≢ n → has (m ∷ ms) n ≡ has ms n
has-other m n ms ne = rw (ne_eqb m n ne) refl

-- what is not counted isn't in the list
pub has-times : (n : ℕ) (ns : List ℕ) → times n ns ≡ 0 → has ns n ≡ false
has-times n [] h = refl
has-times n (m ∷ ms) h = go (m == n) refl (λ k. has-times n ms k) where
  go : (b : Bool) → (m == n) ≡ b → (times n ms ≡ 0 → has ms n ≡ false) → has (m ∷ ms) n ≡ false
  go true q ih = let k : times n (m ∷ ms) ≡ 1 + times n ms = times-yes n m ms q in absurd (omega (arith, k, h))
  go false q ih = let k : times n (m ∷ ms) ≡ times n ms = times-no n m ms q in rw q (ih (omega (arith, k, h)))

pub times-append : (n : ℕ) (xs ys : List ℕ) → times n (xs ++ ys) ≡ times n xs + times n ys
times-append n xs ys = sum_by-append (λ m. cond (m == n) 1 0) xs ys

-- an item that is put in is counted as one at the front
pub times-put_by : {X : Type 0} (number : X → ℕ) (n : ℕ) (x : X) (xs : List X)
    → times n (map number (put_by number x xs)) ≡ times n (number x ∷ map number xs)
times-put_by number n x [] = refl
times-put_by {X} number n x (y ∷ ys) = go (nat_lt (number x) (number y)) refl (times-put_by number n x ys) where
  swapped : times n (map number (put_by number x ys)) ≡ times n (number x ∷ map number ys)
      → times n (number y ∷ map number (put_by number x ys)) ≡ times n (number x ∷ number y ∷ map number ys)
  swapped ih =
      let a = times-cons n (number y) (map number (put_by number x ys)) in
      let b = times-cons n (number x) (number y ∷ map number ys) in
      let d = times-cons n (number y) (map number ys) in
      let e = times-cons n (number x) (map number ys) in
      omega (arith, a, b, d, e, ih)

  go : (b : Bool) → nat_lt (number x) (number y) ≡ b → times n (map number (put_by number x ys)) ≡ times n (number x ∷ map number ys)
      → times n (map number (put_by number x (y ∷ ys))) ≡ times n (number x ∷ map number (y ∷ ys))
  go true q ih = rw q refl
  go false q ih = rw q (swapped ih)

pub length-put_by : {X : Type 0} (number : X → ℕ) (x : X) (xs : List X) → length (put_by number x xs) ≡ length xs + 1
length-put_by number x [] = refl
length-put_by number x (y ∷ ys) =
    let rest = length-put_by number x ys in
    elim (cases_Bool (nat_lt (number x) (number y))) [ inl q ↦ rw q (omega arith) | inr q ↦ rw q (omega (arith, rest)) ]

-- an item below all others goes first
pub put_by-first : {X : Type 0} (number : X → ℕ) (x : X) (xs : List X) → AllByRecursion (λ m. number x < m) (map number xs)
    → put_by number x xs ≡ x ∷ xs
put_by-first number x [] h = refl
put_by-first number x (y ∷ ys) h = rw (lt-ltb (number x) (number y) h.0) refl

-- ---- a rising list, number by number

at_least : (m : ℕ) (ns : List ℕ) (i : ℕ) → AllByRecursion (λ n. m < n) ns → i < length ns → m < get_or ns i 0
at_least m [] i h lt = absurd (omega (arith, lt))
at_least m (n ∷ ns) zero h lt = h.0
at_least m (n ∷ ns) (suc i) h lt = at_least m ns i h.1 (omega (arith, lt))

-- the next number is not among those before it, and put in it goes behind them
pub has-next : (ns : List ℕ) (i : ℕ) → IsRising ns → i < length ns → has (take i ns) (get_or ns i 0) ≡ false
has-next [] i r lt = absurd (omega (arith, lt))
has-next (n ∷ ns) zero r lt = refl
has-next (n ∷ ns) (suc i) r lt =
    let ne : n ≢ get_or ns i 0 = omega (arith, at_least n ns i r.0 (omega (arith, lt))) in
    has-other n (get_or ns i 0) (take i ns) ne ∙ has-next ns i r.1 (omega (arith, lt))

pub put_by-next : (ns : List ℕ) (i : ℕ) → IsRising ns → i < length ns → put_by (λ n. n) (get_or ns i 0) (take i ns) ≡ take (i + 1) ns
put_by-next [] i r lt = absurd (omega (arith, lt))
put_by-next (n ∷ ns) zero r lt = refl
put_by-next (n ∷ ns) (suc i) r lt =
    let more : suc i + 1 ≡ suc (i + 1) = omega arith in
    rw (more, le-ltb (get_or ns i 0) n (omega (arith, at_least n ns i r.0 (omega (arith, lt)))))
    (ap (λ ms. n ∷ ms) (put_by-next ns i r.1 (omega (arith, lt))))

pub all_at : (many : ℕ) (ns : List ℕ) (i : ℕ) → AllByRecursion (λ n. n < many) ns → i < length ns → get_or ns i 0 < many
all_at many [] i h lt = absurd (omega (arith, lt))
all_at many (n ∷ ns) zero h lt = h.0
all_at many (n ∷ ns) (suc i) h lt = all_at many ns i h.1 (omega (arith, lt))

-- ---- a free list from scratch

-- numbers above one are above each that is no higher
pub all_above : (n k : ℕ) (ms : List ℕ) → n ≤ k → AllByRecursion (λ m. k < m) ms → AllByRecursion (λ m. n < m) ms
all_above n k [] le h = tt
all_above n k (m ∷ ms) le h = (omega (arith, h.0, le), all_above n k ms le h.1)

-- a rising list has no number twice
pub times-rising : (n : ℕ) (ns : List ℕ) → IsRising ns → times n ns ≤ 1
times-rising n [] r = omega arith
times-rising n (m ∷ ms) r = go (m == n) refl (times-rising n ms r.1) where
  none : (ms : List ℕ) → AllByRecursion (λ k. n < k) ms → times n ms ≡ 0
  none [] a = refl
  none (k ∷ ms) a = let ne : k ≢ n = omega (arith, a.0) in times-no n k ms (ne_eqb k n ne) ∙ none ms a.1

  go : (b : Bool) → (m == n) ≡ b → times n ms ≤ 1 → times n (m ∷ ms) ≤ 1
  go true q ih = let e : m ≡ n = eqb-true m n q in
      omega (arith, times-yes n m ms q, none ms (subst (λ k. AllByRecursion (λ j. k < j) ms) e r.0))
  go false q ih = omega (arith, times-no n m ms q, ih)
