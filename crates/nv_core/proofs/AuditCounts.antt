-- How many of a list pass a test: of a list that is made of another one, and of one in which one item at most passes.
use Rattle.std.proofs.Common.{◌≡◌, ℕ, zero, suc, ◌+◌, ◌≤◌, ◌&&◌, ◌∙◌, Bool, true, false, cond, List, [], ◌∷◌, Some, ap, arith, filter, map, refl, slice_get, sym}
use Rattle.std.specs.Prelude.{◌||◌}
use Rattle.std.specs.List.{AllByRecursion, list_any}
use Rattle.std.proofs.lemmas.Bool.{false≢true}
use Rattle.std.proofs.lemmas.Option.{same_Some}
use Rattle.nv_machine.proofs.FiledLists.{count, count_cons, one}

pub count_map : {X Y : Type 0} (f : Y → Bool) (h : X → Y) (xs : List X) → count f (map h xs) ≡ count (λ x. f (h x)) xs
count_map f h [] = refl
count_map f h (x ∷ xs) = omega (arith, count_cons f (h x) (map h xs), count_cons (λ x. f (h x)) x xs, count_map f h xs)

pub count_filter : {X : Type 0} (f h : X → Bool) (xs : List X) → count f (filter h xs) ≡ count (λ x. h x && f x) xs
count_filter f h [] = refl
count_filter f h (x ∷ xs) = go (h x) (count_filter f h xs) ∙ sym (count_cons (λ x. h x && f x) x xs) where
  go : (b : Bool) → count f (filter h xs) ≡ count (λ x. h x && f x) xs
      → count f (cond b (x ∷ filter h xs) (filter h xs)) ≡ one (b && f x) + count (λ x. h x && f x) xs
  go true e = omega (arith, e, count_cons f x (filter h xs))
  go false e = omega (arith, e)

pub count_none : {X : Type 0} (f : X → Bool) (xs : List X) → AllByRecursion (λ x. f x ≡ false) xs → count f xs ≡ 0
count_none f [] h = refl
count_none f (x ∷ xs) h = omega (arith, count_cons f x xs, ap one h.0, count_none f xs h.1)

-- of two tests that say the same at each place
pub count_at : {X : Type 0} (f h : X → Bool) (xs : List X) → ((n : ℕ) (x : X) → slice_get xs n ≡ Some x → f x ≡ h x)
    → count f xs ≡ count h xs
count_at f h [] same = refl
count_at f h (x ∷ xs) same =
    omega (arith, count_cons f x xs, count_cons h x xs, ap one (same 0 x refl), count_at f h xs (λ n y. same (suc n) y))

one_or : (b c : Bool) → (b ≡ true → c ≡ true → ⊥) → one (b || c) ≡ one b + one c
one_or true true apart = absurd (apart refl refl)
one_or true false apart = omega arith
one_or false c apart = omega arith

-- of those that pass one of two tests, where none passes both
pub count_or : {X : Type 0} (f h : X → Bool) (xs : List X)
    → ((n : ℕ) (x : X) → slice_get xs n ≡ Some x → f x ≡ true → h x ≡ true → ⊥) → count (λ x. f x || h x) xs ≡ count f xs + count h xs
count_or f h [] apart = refl
count_or f h (x ∷ xs) apart =
    omega (
      arith,
      count_cons (λ x. f x || h x) x xs,
      count_cons f x xs,
      count_cons h x xs,
      one_or (f x) (h x) (apart 0 x refl),
      count_or f h xs (λ n y. apart (suc n) y),
    )

-- one passes at least where any does
pub count_some : {X : Type 0} (f h : X → Bool) (xs : List X) → ((x : X) → f x ≡ true → h x ≡ true) → list_any f xs ≡ true
    → 1 ≤ count h xs
count_some f h [] gives e = absurd (false≢true e)
count_some f h (x ∷ xs) gives e = go (f x) refl e (count_some f h xs gives) where
  go : (b : Bool) → f x ≡ b → (b || list_any f xs) ≡ true → (list_any f xs ≡ true → 1 ≤ count h xs) → 1 ≤ count h (x ∷ xs)
  go true q e more = omega (arith, count_cons h x xs, ap one (gives x q))
  go false q e more = omega (arith, count_cons h x xs, more e)

one_below : (b c : Bool) → (b ≡ true → c ≡ true) → one b ≤ one c
one_below true true h = omega arith
one_below true false h = absurd (false≢true (h refl))
one_below false c h = omega arith

pub count_below : {X : Type 0} (f h : X → Bool) (xs : List X) → ((x : X) → f x ≡ true → h x ≡ true) → count f xs ≤ count h xs
count_below f h [] gives = omega arith
count_below f h (x ∷ xs) gives =
    omega (arith, count_cons f x xs, count_cons h x xs, one_below (f x) (h x) (gives x), count_below f h xs gives)

-- of at most one
pub count_any : {X : Type 0} (f : X → Bool) (xs : List X) → count f xs ≤ 1 → count f xs ≡ one (list_any f xs)
count_any f [] few = refl
count_any {X} f (x ∷ xs) few = go (f x) (count_cons f x xs) (count_any f xs) where
  go : (b : Bool) → count f (x ∷ xs) ≡ one b + count f xs → (count f xs ≤ 1 → count f xs ≡ one (list_any f xs))
      → count f (x ∷ xs) ≡ one (b || list_any f xs)
  go true e more = omega (arith, e, few)
  go false e more = omega (arith, e, more (omega (arith, e, few)))

and_no : (a b : Bool) → (b ≡ true → ⊥) → (a && b) ≡ false
and_no true true never = absurd (never refl)
and_no true false never = refl
and_no false b never = refl

pub no_pass : (b : Bool) → (b ≡ true → ⊥) → b ≡ false
no_pass true never = absurd (never refl)
no_pass false never = refl

-- of a list in which one item at most passes the second test
pub none_numbered : {X : Type 0} (f h : X → Bool) (xs : List X) → ((n : ℕ) (x : X) → slice_get xs n ≡ Some x → h x ≡ true → ⊥)
    → count (λ x. f x && h x) xs ≡ 0
none_numbered f h [] never = refl
none_numbered f h (x ∷ xs) never =
    omega (
      arith,
      count_cons (λ x. f x && h x) x xs,
      ap one (and_no (f x) (h x) (never 0 x refl)),
      none_numbered f h xs (λ n y. never (suc n) y),
    )

and_yes : (a b : Bool) → b ≡ true → (a && b) ≡ a
and_yes true b e = e
and_yes false b e = refl

pub one_numbered : {X : Type 0} (f h : X → Bool) (m : ℕ) (xs : List X) (x : X) → slice_get xs m ≡ Some x → h x ≡ true
    → ((n : ℕ) (y : X) → slice_get xs n ≡ Some y → h y ≡ true → n ≡ m) → count (λ x. f x && h x) xs ≡ one (f x)
one_numbered f h m [] x got own only = cc
one_numbered f h zero (y ∷ xs) x got own only =
    let same : y ≡ x = same_Some y x got in
    omega (
      arith,
      count_cons (λ x. f x && h x) y xs,
      ap (λ z. one (f z && h z)) same,
      ap one (and_yes (f x) (h x) own),
      none_numbered f h xs (λ n z at t. let bad = only (suc n) z at t in absurd (omega (arith, bad))),
    )
one_numbered f h (suc m) (y ∷ xs) x got own only =
    omega (
      arith,
      count_cons (λ x. f x && h x) y xs,
      ap one (and_no (f y) (h y) (λ t. let bad = only 0 y refl t in absurd (omega (arith, bad)))),
      one_numbered f h m xs x got own (λ n z at t. let next = only (suc n) z at t in omega (arith, next)),
    )
