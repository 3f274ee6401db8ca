-- Lists that are filtered and mapped.
use Rattle.std.proofs.Common.{◌≡◌, ◌∙◌, Bool, true, false, List, [], ◌∷◌, ap, ap₂, arith, filter, map, refl, suc, sym}
use Rattle.std.specs.List.{Contains}

-- two maps that agree on the elements of a list
pub map_within : {X Y : Type 0} (f g : X → Y) (xs : List X) → ((x : X) → Contains xs x → f x ≡ g x) → map f xs ≡ map g xs
map_within f g [] same = refl
map_within f g (x ∷ xs) same =
    ap₂ (λ y ys. y ∷ ys) (same x (0, omega arith, refl))
    (map_within f g xs (λ y at. same y (suc at.0, (let lt = at.1 in omega (arith, lt)), at.2)))

-- a filter on what stands in front
filter_yes : {X : Type 0} (p : X → Bool) (x : X) (xs : List X) → p x ≡ true → filter p (x ∷ xs) ≡ x ∷ filter p xs
filter_yes p x xs e = rw e refl

filter_no : {X : Type 0} (p : X → Bool) (x : X) (xs : List X) → p x ≡ false → filter p (x ∷ xs) ≡ filter p xs
filter_no p x xs e = rw e refl

-- filters in the other order
pub filter_swap : {X : Type 0} (p q : X → Bool) (xs : List X) → filter p (filter q xs) ≡ filter q (filter p xs)
filter_swap p q [] = refl
filter_swap {X} p q (x ∷ xs) = go (p x) (q x) refl refl (filter_swap p q xs) where
  go : (a b : Bool) → p x ≡ a → q x ≡ b → filter p (filter q xs) ≡ filter q (filter p xs)
      → filter p (filter q (x ∷ xs)) ≡ filter q (filter p (x ∷ xs))
  go true true pa qb rest =
      ap (filter p) (filter_yes q x xs qb) ∙ filter_yes p x (filter q xs) pa ∙ ap (λ (l : List X). x ∷ l) rest
      ∙ sym (ap (filter q) (filter_yes p x xs pa) ∙ filter_yes q x (filter p xs) qb)
  go true false pa qb rest =
      ap (filter p) (filter_no q x xs qb) ∙ rest
      ∙ sym (ap (filter q) (filter_yes p x xs pa) ∙ filter_no q x (filter p xs) qb)
  go false true pa qb rest =
      ap (filter p) (filter_yes q x xs qb) ∙ filter_no p x (filter q xs) pa ∙ rest ∙ sym (ap (filter q) (filter_no p x xs pa))
  go false false pa qb rest = ap (filter p) (filter_no q x xs qb) ∙ rest ∙ sym (ap (filter q) (filter_no p x xs pa))

-- a filter behind a map
pub filter_map_swap : {X Y : Type 0} (f : X → Y) (p : Y → Bool) (xs : List X)
    → filter p (map f xs) ≡ map f (filter (λ x. p (f x)) xs)
filter_map_swap f p [] = refl
filter_map_swap {X} {Y} f p (x ∷ xs) = go (p (f x)) refl (filter_map_swap f p xs) where
  go : (a : Bool) → p (f x) ≡ a → filter p (map f xs) ≡ map f (filter (λ z. p (f z)) xs)
      → filter p (map f (x ∷ xs)) ≡ map f (filter (λ z. p (f z)) (x ∷ xs))
  go true is rest = rw is (ap (λ l. f x ∷ l) rest)
  go false is rest = rw is rest
