-- Lists of numbers.
use Rattle.std.specs.Prelude.{◌≡◌, ℕ, ◌<◌, ◌==◌, Bool, not, nat_le, nat_lt, List, [], ◌∷◌, Option, Some, None, filter, fold, count_by, if◌then◌else◌}
use Rattle.std.specs.List.{AllByRecursion, list_any, range_with_len}

-- how often the number stands in the list
abbrev pub times : ℕ → List ℕ → ℕ
times n numbers = count_by (λ m. m == n) numbers

-- whether the number stands in the list
abbrev pub has : List ℕ → ℕ → Bool
has numbers n = list_any (λ m. m == n) numbers

-- each number below so many stands in the list once, and no other number does
abbrev pub IsEachOnce : ℕ → List ℕ → Type 0
IsEachOnce many numbers = (n : ℕ) → times n numbers ≡ (if nat_lt n many then 1 else 0)

-- each number is above those before it
abbrev pub IsRising : List ℕ → Type 0
IsRising [] = Unit {0}
IsRising (n ∷ numbers) = AllByRecursion (λ m. n < m) numbers × IsRising numbers

-- a free list from scratch: the numbers from `low` on, `len` of them, without those in use
abbrev pub unused : (ℕ → Bool) → ℕ → ℕ → List ℕ
unused is_used low len = filter (λ n. not (is_used n)) (range_with_len low len)

-- the list with the item before the first one of a greater number
abbrev pub put_by : {X : Type 0} → (X → ℕ) → X → List X → List X
put_by number x [] = x ∷ []
put_by number x (y ∷ ys) = if nat_lt (number x) (number y) then x ∷ y ∷ ys else y ∷ put_by number x ys

-- the lower of two numbers, the first of which may be unknown
abbrev pub lower : Option ℕ → ℕ → Option ℕ
lower None n = Some n
lower (Some low) n = Some (if nat_le low n then low else n)

-- the lowest number, if there is one
abbrev pub lowest : List ℕ → Option ℕ
lowest numbers = fold lower None numbers
