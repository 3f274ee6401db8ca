-- What holds of each element of a list: of lists one behind another, of those that pass a test, and of
-- what follows from it.
use Rattle.std.proofs.Common.{Bool, List, [], arith, cond, false, filter, suc, true, zero, ℕ, ◌++◌, ◌∷◌}
use Rattle.std.specs.List.{AllByRecursion, Contains}

pub all_append : {X : Type 0} (P : X → Type 0) (xs ys : List X) → AllByRecursion P xs → AllByRecursion P ys → AllByRecursion P (xs ++ ys)
all_append P [] ys h k = k
all_append P (x ∷ xs) ys h k = (h.0, all_append P xs ys h.1 k)

pub all_front : {X : Type 0} (P : X → Type 0) (xs ys : List X) → AllByRecursion P (xs ++ ys) → AllByRecursion P xs
all_front P [] ys h = tt
all_front P (x ∷ xs) ys h = (h.0, all_front P xs ys h.1)

pub all_back : {X : Type 0} (P : X → Type 0) (xs ys : List X) → AllByRecursion P (xs ++ ys) → AllByRecursion P ys
all_back P [] ys h = h
all_back P (x ∷ xs) ys h = all_back P xs ys h.1

pub all_weaker : {X : Type 0} (P Q : X → Type 0) → ((x : X) → P x → Q x) → (xs : List X) → AllByRecursion P xs → AllByRecursion Q xs
all_weaker P Q f [] h = tt
all_weaker P Q f (x ∷ xs) h = (f x h.0, all_weaker P Q f xs h.1)

pub all_with : {X : Type 0} (P Q R : X → Type 0) → ((x : X) → P x → Q x → R x) → (xs : List X) → AllByRecursion P xs
    → AllByRecursion Q xs → AllByRecursion R xs
all_with P Q R f [] p q = tt
all_with P Q R f (x ∷ xs) p q = (f x p.0 q.0, all_with P Q R f xs p.1 q.1)

pub all_at : (P : ℕ → Type 0) (xs : List ℕ) (n : ℕ) → AllByRecursion P xs → Contains xs n → P n
all_at P [] n all there = absurd (let lt = there.1 in omega (arith, lt))
all_at P (x ∷ xs) n all (zero, lt, at) = rw (← at) all.0
all_at P (x ∷ xs) n all (suc k, lt, at) = all_at P xs n all.1 (k, omega (arith, lt), at)

pub all_filter : {X : Type 0} (P : X → Type 0) (p : X → Bool) (xs : List X) → AllByRecursion P xs → AllByRecursion P (filter p xs)
all_filter P p [] h = tt
all_filter P p (x ∷ xs) h = go (p x) (all_filter P p xs h.1) where
  go : (b : Bool) → AllByRecursion P (filter p xs) → AllByRecursion P (cond b (x ∷ filter p xs) (filter p xs))
  go true more = (h.0, more)
  go false more = more
