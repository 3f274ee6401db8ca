-- What stands in the bytes of a message: numbers at their places, and names that end in a zero byte.
use Rattle.std.specs.Prelude.{ℕ, ◌==◌, Bool, List, drop, length, nat_lt}
use Rattle.std.specs.List.{after_first, before_first, position_or_len}
use Rattle.byteorder.specs.Endian.{little_number}

-- the number in the bytes from a place on, of a width in bytes, the lowest byte first
abbrev pub field : ℕ → ℕ → List ℕ → ℕ
field place width bytes = little_number width (drop place bytes)

-- the byte that ends a name
abbrev pub is_nul : ℕ → Bool
is_nul byte = byte == 0

-- a name ends among these bytes
abbrev pub has_name : List ℕ → Bool
has_name bytes = nat_lt (position_or_len is_nul bytes) (length bytes)

-- the name that these bytes begin with
abbrev pub name_of : List ℕ → List ℕ
name_of bytes = before_first is_nul bytes

-- what stands behind this name and the byte that ends it
abbrev pub behind_name : List ℕ → List ℕ
behind_name bytes = after_first is_nul bytes
