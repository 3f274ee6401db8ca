-- What is left of a path below a directory of a tree.
use Rattle.std.proofs.Common.{◌≡◌, ℕ, ◌+◌, ◌-◌, ◌<◌, Bool, true, false, if◌then◌else◌, List, [], ◌∷◌, drop, get_or, length, Some, None, refl, ap, ◌∙◌, arith}
use Rattle.std.proofs.lemmas.List.{drop_all, drop_more}
use Rattle.nv_mounted.specs.Snapshots.{is_hidden_at, one_name}

chosen_none : (b : Bool) (name : List ℕ) → b ≡ false → (if b then None else Some name) ≡ Some name
chosen_none true name e = let no : ⊥ = cc in absurd no
chosen_none false name e = refl

chosen_hidden : (b : Bool) (name : List ℕ) → b ≡ true → (if b then None else Some name) ≡ None
chosen_hidden true name e = refl
chosen_hidden false name e = let no : ⊥ = cc in absurd no

-- no single name is left of a path
pub no_one : (depth : ℕ) (left : List (List ℕ)) → (length left ≡ 1 → ⊥)
    → one_name depth left ≡ None
no_one depth [] ne = refl
no_one depth (name ∷ []) ne = absurd (ne refl)
no_one depth (name ∷ other ∷ names) ne = refl

-- one name is left of it
pub one_left : (path : List (List ℕ)) (depth : ℕ) (d : List ℕ) → depth < length path
    → length path - depth ≡ 1 → drop depth path ≡ get_or path depth d ∷ []
one_left path depth d below one =
    drop_more path depth d below
    ∙ ap (λ (xs : List (List ℕ)). get_or path depth d ∷ xs) (drop_all (depth + 1) path (omega arith))

-- it is shown, or is the hidden directory's
pub shown_one : (depth : ℕ) (name : List ℕ) → is_hidden_at depth name ≡ false
    → one_name depth (name ∷ []) ≡ Some name
shown_one depth name e = chosen_none (is_hidden_at depth name) name e

pub hidden_one : (depth : ℕ) (name : List ℕ) → is_hidden_at depth name ≡ true
    → one_name depth (name ∷ []) ≡ None
hidden_one depth name e = chosen_hidden (is_hidden_at depth name) name e
