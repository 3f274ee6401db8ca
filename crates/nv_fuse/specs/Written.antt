-- The bytes of numbers as a reply's code has them.
use Rattle.std.specs.Prelude.{ℕ, List}
use Rattle.byteorder.specs.Endian.{little_bytes}
use Rattle.nv_fuse.specs.declared.put.Field.{Field}
use Rattle.nv_fuse.specs.declared.put.Field.TheVariants.{Half, Long, Word}

-- a number's bytes, the lowest first
abbrev pub field_bytes : Field → List ℕ
field_bytes (Half x) = little_bytes 2 x
field_bytes (Word x) = little_bytes 4 x
field_bytes (Long x) = little_bytes 8 x
