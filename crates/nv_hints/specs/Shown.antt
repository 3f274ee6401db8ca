-- Bytes as a line of standard error shows them.
use Rattle.std.specs.Prelude.{ℕ, ◌/◌, ◌%◌, ◌==◌, ◌&&◌, ◌≤◌, Bool, false, not, if◌then◌else◌, nat_lt, nat_le, List, [], ◌∷◌, ◌++◌, length, take, codes}
use Rattle.std.specs.List.{flat_map}
use Rattle.std.specs.Fmt.{digit_glyph}

-- a byte that is shown as itself: one from the space to `~`, except `\`
abbrev pub is_shown : ℕ → Bool
is_shown byte = nat_le 32 byte && nat_le byte 126 && not (byte == 92)

-- a byte as it is shown: itself, or `\x` and two lower-case hexadecimal digits
abbrev pub shown_byte : ℕ → List ℕ
shown_byte byte = if is_shown byte then byte ∷ [] else 92 ∷ 120 ∷ digit_glyph false (byte / 16) ∷ digit_glyph false (byte % 16) ∷ []

-- bytes as they are shown: one from the space to `~` except `\` as itself, and any other as `\x`
-- and two digits
abbrev pub shown : List ℕ → List ℕ
shown bytes = flat_map shown_byte bytes

-- bytes in quotes, at most so many of them, and dots for the rest. Example: of `a`, a tab and `b`,
-- 2 at most are `'a\x09...'`.
abbrev pub quoted : ℕ → List ℕ → List ℕ
quoted most bytes = 39 ∷ (shown (take most bytes) ++ (if nat_lt most (length bytes) then codes "..." else [])) ++ 39 ∷ []

-- a byte that a terminal shows as a letter or a space
abbrev pub IsVisible : ℕ → Type 0
IsVisible byte = (32 ≤ byte) × (byte ≤ 126)
