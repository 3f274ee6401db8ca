-- What printed text looks like, in other words than the definition that prints it.
use Rattle.std.specs.Prelude.{◌≡◌, ◌≢◌, ◌⊎◌, ◌≤◌, ◌<◌, ℕ, ◌+◌, ◌*◌, List, [], ◌∷◌, ◌++◌, codes, slice_index}

-- the digits of an escape, each at the place that it is worth
abbrev pub digits : List ℕ
digits = codes "0123456789abcdef"

-- `%`, and the two digits of a byte
abbrev pub IsEscape : ℕ → List ℕ → Type 0
IsEscape byte text = (high low : ℕ) × (high < 16) × (low < 16) × (byte ≡ 16 * high + low)
    × (text ≡ codes "%" ++ slice_index digits high ∷ slice_index digits low ∷ [])

-- a byte from `!` to `~` other than `%`
abbrev pub IsVisible : ℕ → Type 0
IsVisible byte = (33 ≤ byte) × (byte ≤ 126) × (byte ≢ 37)

-- a visible byte is printed as itself, and any other as its escape
abbrev pub IsPrinted : ℕ → List ℕ → Type 0
IsPrinted byte text = (IsVisible byte × (text ≡ byte ∷ [])) ⊎ ((IsVisible byte → ⊥) × IsEscape byte text)

-- PRINTED TEXT, in other words than `escaped`, which prints it: a byte from `!` to `~` other than
-- `%` as itself, and any other as `%` and two digits of `0-9` and `a-f`. Example: the byte 255 is
-- `%ff`.
abbrev pub ArePrinted : List ℕ → List ℕ → Type 0
ArePrinted [] text = text ≡ []
ArePrinted (byte ∷ bytes) text = (first rest : List ℕ) × (text ≡ first ++ rest) × IsPrinted byte first × ArePrinted bytes rest
