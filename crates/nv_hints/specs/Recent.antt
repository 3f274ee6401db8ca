-- The bytes of a script that were read last.
use Rattle.std.specs.Prelude.{◌≡◌, ◌==◌, ◌+◌, ◌⊎◌, ℕ, Bool, List, [], ◌∷◌, ◌++◌, count_by}
use Rattle.nv_script.specs.Lines.{HasNoEnd}

-- what is kept of the bytes that were read
pub record Window : Type 0 where
  -- how many lines stand before the bytes that are kept
  pub before : ℕ
  -- the bytes from the beginning of a line on
  pub kept : List ℕ
  -- memory was refused for some of them
  pub lost : Bool
  -- the script has no more bytes
  pub all_read : Bool

-- how many lines end in some bytes
abbrev pub ends_in : List ℕ → ℕ
ends_in bytes = count_by (λ byte. byte == 10) bytes

-- these bytes are so many whole lines: there is none, or the last of them is a line end
abbrev pub AreLines : List ℕ → ℕ → Type 0
AreLines bytes lines = ((bytes ≡ []) ⊎ ((body : List ℕ) × (bytes ≡ body ++ 10 ∷ []))) × (ends_in bytes ≡ lines)

-- all bytes that were read end in those that are kept, with so many lines before them
abbrev pub Keeps : (all : List ℕ) → Window → Type 0
Keeps all w = (front : List ℕ) × (all ≡ front ++ w.kept) × AreLines front w.before

-- what stands behind a line: its end, or nothing was read yet
abbrev pub IsBehindLine : List ℕ → Type 0
IsBehindLine rest = (rest ≡ []) ⊎ ((more : List ℕ) × (rest ≡ 10 ∷ more))

-- the line of a number, counted from 1, without its end, as far as it was read: one line fewer
-- stands before it
abbrev pub IsLineOf : (all : List ℕ) → (number : ℕ) → (line : List ℕ) → Type 0
IsLineOf all number line = (front : List ℕ) × (rest : List ℕ) × (lines : ℕ) × (all ≡ front ++ (line ++ rest)) × (number ≡ lines + 1)
    × AreLines front lines × HasNoEnd line × IsBehindLine rest
