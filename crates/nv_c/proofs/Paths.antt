-- The text of a path is that of its names, one after another.
use Rattle.std.proofs.Common.{arith, ◌≡◌, ◌∙◌, ◌<◌, ◌≤◌, ◌+◌, ℕ, suc, List, [], ◌∷◌, ◌++◌, add-one, ap, append_assoc, drop, drop-cons, get_or, length, refl, sym}
use Rattle.std.proofs.lemmas.List.{drop_all}
use Rattle.nv_c.specs.Bytes.{path_text, with_slashes}

-- so many names have been written
abbrev pub IsOnTheWay : List (List ℕ) → ℕ → List ℕ → Type 0
IsOnTheWay names count text = text ++ with_slashes (drop count names) ≡ with_slashes names

-- one name more
pub way_more : (names : List (List ℕ)) (i : ℕ) (name old new : List ℕ) → i < length names → name ≡ get_or names i name
    → new ≡ old ++ 47 ∷ name → IsOnTheWay names i old → IsOnTheWay names (i + 1) new
way_more names i name old new lt is written way =
    let rest : drop i names ≡ name ∷ drop (i + 1) names =
    rw add-one (drop-cons names i name lt ∙ ap (λ (n : List ℕ). n ∷ drop (suc i) names) (sym is)) in
    ap (λ (t : List ℕ). t ++ with_slashes (drop (i + 1) names)) written
    ∙ append_assoc old (47 ∷ name) (with_slashes (drop (i + 1) names))
    ∙ ap (λ (ns : List (List ℕ)). old ++ with_slashes ns) (sym rest) ∙ way

-- all names
pub way_done : (names : List (List ℕ)) (i : ℕ) (text : List ℕ) → 0 < length names → length names ≤ i → IsOnTheWay names i text
    → text ≡ path_text names
way_done [] i text some all way = absurd (omega (arith, some))
way_done (name ∷ names) i text some all way =
    let none : drop i (name ∷ names) ≡ [] = drop_all i (name ∷ names) all in
    sym (append_nil text) ∙ ap (λ (ns : List (List ℕ)). text ++ with_slashes ns) (sym none) ∙ way where
      append_nil : (xs : List ℕ) → xs ++ [] ≡ xs
      append_nil [] = refl
      append_nil (x ∷ xs) = ap (λ (l : List ℕ). x ∷ l) (append_nil xs)
