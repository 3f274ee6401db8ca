-- The visits of a way, as a directory's names are put on it.
use Rattle.std.proofs.Common.{◌≡◌, ◌≢◌, ℕ, suc, ◌+◌, ◌-◌, ◌<◌, List, [], ◌∷◌, ◌++◌, length, map, reverse, Option, Some, None, IsSome, arith, refl, ap, sym, ◌∙◌}
use Rattle.std.proofs.lemmas.List.{length-append, length-reverse, reverse-append, reverse-reverse}
use Rattle.nv_base.specs.declared.numbers.Handle.{Handle}
use Rattle.nv_entry.specs.declared.names.BoundName.{BoundName}
use Rattle.nv_reader.specs.Walk.{Visit, name_visits, next_handle, visits_below}
use Rattle.nv_reader.specs.Ways.{left_visits, name_visit, visits_of}

reverse_push : {X : Type 0} → (xs : List X) (x : X) → reverse (xs ++ x ∷ []) ≡ x ∷ reverse xs
reverse_push xs x = reverse-append xs (x ∷ [])

named_visits : (below : ℕ) (path : List (List ℕ)) (names : List BoundName)
    → map (name_visit below path) names ≡ name_visits (suc below) path names
named_visits below path [] = refl
named_visits below path (bound ∷ names) = ap (λ visits. name_visit below path bound ∷ visits) (named_visits below path names)

-- a way with one more name on it, behind which others of its directory are left
entered : (depth : ℕ) (path : List (List ℕ)) (left : List (List BoundName)) (handle : Handle) (first : BoundName)
    (rest names : List BoundName)
    → length path + 1 < depth → reverse names ≡ rest ++ first ∷ []
    → visits_of depth (Some first.to) (path ++ first.name ∷ []) (left ++ rest ∷ [])
    ≡ visits_below (visits_of depth (Some handle) path left) names
entered depth path left handle first rest names deep is =
    let below : ℕ = depth - length path - 1 - 1 in
    let later = left_visits depth (reverse path) (reverse left) in
    let all : names ≡ first ∷ reverse rest = sym (reverse-reverse names) ∙ ap reverse is ∙ reverse_push rest first in
    let under : depth - length path - 1 ≡ suc below = omega (arith, deep) in
    let here : depth - length (path ++ first.name ∷ []) - 1 ≡ below = omega (arith, length-append path (first.name ∷ [])) in
    let there : depth - length (first.name ∷ reverse path) - 1 ≡ below = omega (arith, length-reverse path) in
    let lower : left_visits depth (reverse (path ++ first.name ∷ [])) (reverse (left ++ rest ∷ []))
    ≡ map (name_visit below path) (reverse rest) ++ later =
    rw (reverse_push path first.name, reverse_push left rest, there, reverse-reverse path) refl in
    rw (lower, here, all)
    (ap (λ (vs : List Visit). name_visit below path first ∷ (vs ++ later)) (named_visits below path (reverse rest))
    ∙ ap (λ (n : ℕ). name_visits n path (first ∷ reverse rest) ++ later) (sym under))

-- the same of a way that has a visit
pub entered_from : (depth : ℕ) (path : List (List ℕ)) (left : List (List BoundName)) (next : Option Handle) (first : BoundName)
    (rest names : List BoundName)
    → IsSome (next_handle (visits_of depth next path left)) → (IsSome next → length path < depth) → length path + 1 ≢ depth
    → reverse names ≡ rest ++ first ∷ []
    → visits_of depth (Some first.to) (path ++ first.name ∷ []) (left ++ rest ∷ []) ≡ visits_below (visits_of depth next path left) names
entered_from depth path left None first rest names some within deep is = cc
entered_from depth path left (Some handle) first rest names some within deep is =
    let less : length path < depth = within refl in
    entered depth path left handle first rest names (omega (arith, less, deep)) is
