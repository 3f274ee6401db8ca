-- No item of a list passes a test.
use Rattle.std.proofs.Common.{◌≡◌, ℕ, zero, suc, ◌||◌, Bool, true, false, not, List, [], ◌∷◌, refl, sym, ◌∙◌, slice_index_or}
use Rattle.std.specs.Prelude.{◌↔◌, IsTrue}
use Rattle.std.specs.List.{list_any}
use Rattle.std.proofs.lemmas.Bool.{false≢true}

first_not : {X : Type 0} (p : X → Bool) (x : X) (xs : List X) (b : Bool) → p x ≡ b → list_any p (x ∷ xs) ≡ false → p x ≡ false
first_not p x xs true q h = absurd (false≢true (sym h ∙ rw q refl))
first_not p x xs false q h = q

rest_not : {X : Type 0} (p : X → Bool) (x : X) (xs : List X) (b : Bool) → p x ≡ b → list_any p (x ∷ xs) ≡ false
    → list_any p xs ≡ false
rest_not p x xs true q h = absurd (false≢true (sym h ∙ rw q refl))
rest_not p x xs false q h = rw q at h

-- none does, where none does by its place
pub none_by_place : {X : Type 0} (p : X → Bool) (xs : List X) (d : X) → ((n : ℕ) → p (slice_index_or xs n d) ≡ false)
    → list_any p xs ≡ false
none_by_place p [] d none = refl
none_by_place p (x ∷ xs) d none = rw (none 0) (none_by_place p xs d (λ n. none (suc n)))

pub none_at : {X : Type 0} (p : X → Bool) (xs : List X) (d : X) → p d ≡ false → list_any p xs ≡ false
    → (n : ℕ) → p (slice_index_or xs n d) ≡ false
none_at p [] d past none n = past
none_at p (x ∷ xs) d past none zero = first_not p x xs (p x) refl none
none_at p (x ∷ xs) d past none (suc n) = none_at p xs d past (rest_not p x xs (p x) refl none) n

pub not_false : (b : Bool) → IsTrue (not b) → b ≡ false
not_false true h = absurd (false≢true h)
not_false false h = refl

pub false_not : (b : Bool) → b ≡ false → IsTrue (not b)
false_not true h = absurd (false≢true (sym h))
false_not false h = refl
