-- The nearest of some names.
use Rattle.std.proofs.Common.{◌≡◌, ◌+◌, ◌<◌, ◌≤◌, ◌-◌, ◌^◌, ℕ, suc, List, [], ◌∷◌, ◌++◌, length, map, take, get_or, Option, Some, None, refl, ap, ◌∙◌, arith}
use Rattle.std.specs.List.{All}
use Rattle.std.proofs.lemmas.List.{map-append}
use Rattle.std.proofs.lemmas.List.Elements.{All-append, All-cons, All-nil, Contains-append_left, Contains-append_right}
use Rattle.std.proofs.Math.Seq.{take-suc}
use Rattle.nv_hints.specs.Nearest.{IsNear, IsNearest, edits}
use denote.Ref.{Bor}

-- the edits of the name that was found, or as many as no name takes
unfoldable pub IsFewest : (word : List ℕ) → Option (List ℕ) → ℕ → Type 0
IsFewest word None fewest = fewest ≡ 2 ^ 64 - 1
IsFewest word (Some name) fewest = fewest ≡ edits word name

-- one more name, and no other
one : (P : List ℕ → Type 0) (names : List (List ℕ)) (name : List ℕ) → All P names → P name → All P (names ++ name ∷ [])
one P names name all here = All-append P names (name ∷ []) all (All-cons P name [] here (All-nil P))

-- a name that is nearer
pub IsNearest-nearer : (word : List ℕ) (names : List (List ℕ)) (name : List ℕ) (found : Option (List ℕ)) (fewest : ℕ)
    → IsNearest word names found → IsFewest word found fewest → edits word name < fewest → IsNear word name
    → IsNearest word (names ++ name ∷ []) (Some name)
unfolding IsFewest
IsNearest-nearer word names name None fewest none is fewer near = (
  Contains-append_right names (name ∷ []) name (0, omega arith, refl),
  near,
  one (λ other. IsNear word other → edits word name ≤ edits word other) names name
      (λ k d within other. absurd (none k d within other)) (λ here. omega arith),
)
IsNearest-nearer word names name (Some old) fewest some is fewer near = (
  Contains-append_right names (name ∷ []) name (0, omega arith, refl),
  near,
  one (λ other. IsNear word other → edits word name ≤ edits word other) names name
      (λ k d within other. omega (arith, some.2 k d within other)) (λ here. omega arith),
)

-- a name that is not
pub IsNearest-farther : (word : List ℕ) (names : List (List ℕ)) (name : List ℕ) (found : Option (List ℕ)) (fewest : ℕ)
    → IsNearest word names found → IsFewest word found fewest → (edits word name < fewest → ¬ IsNear word name)
    → length name < 2 ^ 64 → IsNearest word (names ++ name ∷ []) found
unfolding IsFewest
IsNearest-farther word names name None fewest none is farther small =
    one (λ other. ¬ IsNear word other) names name none (λ near. farther (omega (arith, near)) near)
IsNearest-farther word names name (Some old) fewest some is farther small = (
  Contains-append_left names (name ∷ []) old some.0,
  some.1,
  one (λ other. IsNear word other → edits word old ≤ edits word other) names name some.2 (λ near. grind (arith, farther)),
)

-- the names so far and one more
pub texts-more : (names : List (Bor (List ℕ))) (i : ℕ) (name : Bor (List ℕ)) → i < length names
    → map (λ n. n.now) (take (i + 1) names) ≡ map (λ n. n.now) (take i names) ++ (get_or names i name).now ∷ []
texts-more names i name within =
    let same : i + 1 ≡ suc i = omega arith in
    ap (λ (n : ℕ). map (λ n. n.now) (take n names)) same ∙ ap (map (λ n. n.now)) (take-suc names i name within)
    ∙ map-append (λ n. n.now) (take i names) (get_or names i name ∷ [])
