-- Tables of numbers that are written: each row has a place, a width in bytes and a number.
use Rattle.std.specs.Prelude.{ℕ, ◌+◌, ◌&&◌, ◌==◌, Bool, true, List, [], ◌∷◌, ◌++◌}
use Rattle.byteorder.specs.Endian.{little_bytes}

-- a number of a width in bytes, and the place of its first byte
pub record Row : Type 0 where
  -- where its first byte stands
  pub place : ℕ
  -- how many bytes it has
  pub width : ℕ
  -- the number
  pub value : ℕ

abbrev pub row : ℕ → ℕ → ℕ → Row
row place width value = record { place = place; width = width; value = value }

-- the bytes of a table: its numbers one after the other, each with its lowest byte first
abbrev pub bytes_of : List Row → List ℕ
bytes_of [] = []
bytes_of (r ∷ rows) = little_bytes r.width r.value ++ bytes_of rows

-- each row stands where the one before it ends, and the first at this place
abbrev pub has_no_gap : ℕ → List Row → Bool
has_no_gap place [] = true
has_no_gap place (r ∷ rows) = (r.place == place) && has_no_gap (place + r.width) rows
