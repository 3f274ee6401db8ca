-- The name that was meant by a word.
use Rattle.std.specs.Prelude.{ℕ, ◌≤◌, ◌/◌, List, length, Option, Some, None, map, nat_eq}
use Rattle.std.specs.List.{All, Contains}
use Rattle.std.specs.Char.{to_ascii_lowercase}
use Rattle.strsim.specs.Edits.{levenshtein_row}

-- the fewest edits that lead from a word to a name: a byte is put in, taken out or replaced, and case doesn't count
abbrev pub edits : (word name : List ℕ) → ℕ
edits word name = levenshtein_row nat_eq (map to_ascii_lowercase word) name (length name)

-- a name is near where the edits that lead to it are at most half as many as it has bytes
abbrev pub IsNear : (word name : List ℕ) → Type 0
IsNear word name = edits word name ≤ length name / 2

-- none of the names is near; or this one is, and no near one takes fewer edits. Example: `wrte`
-- takes one edit to `write`, and is near.
abbrev pub IsNearest : (word : List ℕ) → List (List ℕ) → Option (List ℕ) → Type 0
IsNearest word names None = All (λ name. ¬ IsNear word name) names
IsNearest word names (Some name) =
    Contains names name × IsNear word name × All (λ other. IsNear word other → edits word name ≤ edits word other) names
