-- Which living snapshots hold what was born and died, by the snapshots' numbers alone.
use Rattle.std.specs.Prelude.{ℕ, ◌<◌, ◌≤◌, ◌==◌, ◌&&◌, Bool, not, nat_le, nat_lt, List, [], ◌∷◌, All, Contains, filter, Option, Some, None, if◌then◌else◌}
use Rattle.std.specs.List.{last_or}

-- each number is above those before it
abbrev pub IsRising : List ℕ → Type 0
IsRising [] = Unit {0}
IsRising (s ∷ ss) = All (λ t. s < t) ss × IsRising ss

-- the last number of a list that passes the test
abbrev pub last_that : (ℕ → Bool) → List ℕ → Option ℕ
last_that passes numbers = last_or None (filter passes numbers)

-- a snapshot holds what lived from a birth to a death
pub record IsHeld (birth death s : ℕ) : Type 0 where
  -- it was born by the snapshot's epoch
  pub born : birth ≤ s
  -- it died in a later epoch than the snapshot's
  pub not_dead : s < death

-- the test of `IsHeld`
abbrev pub holds : ℕ → ℕ → ℕ → Bool
holds birth death s = nat_le birth s && nat_lt s death

-- the living snapshots that hold what lived from a birth to a death, oldest first
abbrev pub holders : List ℕ → ℕ → ℕ → List ℕ
holders living birth death = filter (holds birth death) living

-- the youngest living snapshot that holds what lived from a birth to a death
abbrev pub youngest_holder : List ℕ → ℕ → ℕ → Option ℕ
youngest_holder living birth death = last_that (holds birth death) living

-- a snapshot is the youngest holder of what lived from a birth to a death
pub record IsYoungestHolder (living : List ℕ) (birth death s : ℕ) : Type 0 where
  -- the snapshot lives
  pub lives : Contains living s
  -- the snapshot holds it
  pub holds_it : IsHeld birth death s
  -- no living snapshot that holds it is younger
  pub youngest : (t : ℕ) → Contains living t → IsHeld birth death t → t ≤ s

-- the youngest living snapshot that is older than `s`.
-- Example: with 1, 2 and 4 living, what lived from 2 to 4 has the youngest holder 2. Once 2 is
-- dropped it has none, since 1 was made before its birth.
abbrev pub next_older : List ℕ → ℕ → Option ℕ
next_older living s = last_that (λ t. nat_lt t s) living

-- `t` is the next older living snapshot of `s`
pub record IsNextOlder (living : List ℕ) (s t : ℕ) : Type 0 where
  -- `t` lives
  pub lives : Contains living t
  -- `t` is older than `s`
  pub older : t < s
  -- no other living snapshot that is older than `s` is younger than `t`
  pub next : (u : ℕ) → Contains living u → u < s → u ≤ t

-- that snapshot, if it was made no earlier than the birth
abbrev pub if_born_by : ℕ → Option ℕ → Option ℕ
if_born_by birth None = None
if_born_by birth (Some s) = if nat_le birth s then Some s else None

-- the living snapshots once s is removed
abbrev pub without : ℕ → List ℕ → List ℕ
without s living = filter (λ t. not (t == s)) living
