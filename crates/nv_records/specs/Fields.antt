-- The bytes of a field, and the values that a field may have.
use Rattle.std.specs.Prelude.{ℕ, ◌<◌, ◌≤◌, ◌^◌, List, ◌++◌, length}
use Rattle.std.specs.Int.{w64, to_le_bytes}
use Rattle.nv_base.specs.declared.limits.TheConstants.{MODE}
use Rattle.nv_base.specs.declared.numbers.Handle.{Handle}

-- a number: eight bytes, the lowest first
unfoldable pub number : ℕ → List ℕ
number n = to_le_bytes w64 n

-- bytes, with their length before them
abbrev pub string : List ℕ → List ℕ
string bytes = number (length bytes) ++ bytes

abbrev pub handle : Handle → List ℕ
handle h = number h.ino ++ number h.generation

-- two fields, one behind the other
abbrev pub pair : {A B : Type 0} → (A → List ℕ) → (B → List ℕ) → A × B → List ℕ
pair a b x = a x.0 ++ b x.1

abbrev pub IsNumber : ℕ → Type 0
IsNumber n = n < 2 ^ 64

abbrev pub IsString : List ℕ → Type 0
IsString bytes = IsNumber (length bytes)

abbrev pub IsMode : ℕ → Type 0
IsMode n = n ≤ MODE

abbrev pub IsHandle : Handle → Type 0
IsHandle h = IsNumber h.ino × IsNumber h.generation

abbrev pub AreBoth : {A B : Type 0} → (A → Type 0) → (B → Type 0) → A × B → Type 0
AreBoth P Q x = P x.0 × Q x.1
