-- Lists that are turned round, and what is mapped of them.
use Rattle.std.proofs.Common.{◌≡◌, ◌∙◌, ◌+◌, ◌++◌, ℕ, zero, suc, List, [], ◌∷◌, drop, map, reverse, refl, ap, arith, sym}
use Rattle.std.proofs.lemmas.List.{map-append, reverse-append, same_from_push}

pub map-reversed : {A B : Type 0} (f : A → B) (xs : List A) → reverse (map f xs) ≡ map f (reverse xs)
map-reversed f [] = refl
map-reversed f (x ∷ xs) =
    reverse-append (f x ∷ []) (map f xs) ∙ ap (λ ys. ys ++ f x ∷ []) (map-reversed f xs)
    ∙ sym (ap (map f) (reverse-append (x ∷ []) xs) ∙ map-append f (reverse xs) (x ∷ []))

-- the last comes first
pub map-reversed_last : {A B : Type 0} (f : A → B) (xs front : List A) (x : A) → xs ≡ front ++ x ∷ []
    → reverse (map f xs) ≡ f x ∷ reverse (map f front)
map-reversed_last f xs front x is =
    ap (λ ys. reverse (map f ys)) is ∙ ap reverse (map-append f front (x ∷ []))
    ∙ reverse-append (map f front) (f x ∷ [])

-- what two lists have in common they have in common turned round
pub turned : {A B T : Type 0} (f : A → T) (g : B → T) (xs last : List A) (ys end : List B)
    → map f xs ≡ map g ys → last ≡ reverse xs → end ≡ reverse ys → map f last ≡ map g end
turned f g xs last ys end same by to =
    ap (map f) by ∙ sym (map-reversed f xs) ∙ ap reverse same ∙ map-reversed g ys ∙ sym (ap (map g) to)

-- and where one list is told by the other
pub turned_told : {A B : Type 0} (g : B → A) (xs last : List A) (ys end : List B)
    → xs ≡ map g ys → last ≡ reverse xs → end ≡ reverse ys → last ≡ map g end
turned_told g xs last ys end same by to =
    by ∙ ap reverse same ∙ map-reversed g ys ∙ sym (ap (map g) to)

-- at the last of both, and before it
pub split_last : {A B T : Type 0} (f : A → T) (g : B → T) (xs front : List A) (x : A) (ys start : List B) (y : B)
    → map f xs ≡ map g ys → xs ≡ front ++ x ∷ [] → ys ≡ start ++ y ∷ []
    → (map f front ≡ map g start) × (f x ≡ g y)
split_last f g xs front x ys start y same is to =
    same_from_push (map f front) (map g start) (f x) (g y)
    (sym (ap (map f) is ∙ map-append f front (x ∷ [])) ∙ same ∙ ap (map g) to ∙ map-append g start (y ∷ []))

-- and with one more behind both
pub joined_last : {A B T : Type 0} (f : A → T) (g : B → T) (xs more : List A) (x : A) (ys further : List B) (y : B)
    → map f xs ≡ map g ys → more ≡ xs ++ x ∷ [] → further ≡ ys ++ y ∷ [] → f x ≡ g y → map f more ≡ map g further
joined_last f g xs more x ys further y same is to last =
    ap (map f) is ∙ map-append f xs (x ∷ []) ∙ ap (λ ts. ts ++ f x ∷ []) same ∙ ap (λ t. map g ys ++ t ∷ []) last
    ∙ sym (ap (map g) to ∙ map-append g ys (y ∷ []))

-- what is left of a list behind one more
pub drop_next : {A : Type 0} (k : ℕ) (xs : List A) (y : A) (ys : List A) → drop k xs ≡ y ∷ ys → drop (k + 1) xs ≡ ys
drop_next k [] y ys is = absurd (nil_not y ys (sym (drop_nil k) ∙ is)) where
  drop_nil : {A : Type 0} (k : ℕ) → drop k (let none : List A = [] in none) ≡ []
  drop_nil zero = refl
  drop_nil (suc k) = refl

  nil_not : {A : Type 0} (y : A) (ys : List A) → [] ≡ y ∷ ys → ⊥
  nil_not y ys is = cc
drop_next zero (x ∷ xs) y ys is = ap (drop 1) is
drop_next (suc k) (x ∷ xs) y ys is =
    let more : suc k + 1 ≡ suc (k + 1) = omega arith in
    ap (λ n. drop n (x ∷ xs)) more ∙ drop_next k xs y ys is
