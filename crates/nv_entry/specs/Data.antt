-- The values that keys have, by their types.
use Rattle.std.specs.Prelude.{ℕ, Option, Some, None}
use Rattle.nv_base.specs.declared.numbers.Handle.{Handle}
use Rattle.nv_entry.specs.declared.key.Datum.{Datum}
use Rattle.nv_entry.specs.declared.key.Datum.TheVariants.{Mode, Size, Node, Block}

-- the mode that a value is, if it is one
abbrev pub mode_in : Datum → Option ℕ
mode_in (Mode mode) = Some mode
mode_in value = None

-- the size that a value is, if it is one
abbrev pub size_in : Datum → Option ℕ
size_in (Size size) = Some size
size_in value = None

-- the handle that a value is, if it is one
abbrev pub node_in : Datum → Option Handle
node_in (Node to) = Some to
node_in value = None

-- the block that a value is, if it is one
abbrev pub block_in : Datum → Option ℕ
block_in (Block number) = Some number
block_in value = None
