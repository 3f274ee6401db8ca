-- What lies beside a cell in its place.
use Rattle.std.specs.Prelude.{ℕ, Option, Some, None}
use Rattle.nv_sessions.specs.Fresh.{Owned}
use Rattle.nv_sessions.specs.declared.beside.Beside.{Beside}
use Rattle.nv_sessions.specs.declared.exclusive.Exclusive.{Exclusive}

-- what contracts see of it
pub record BesideValue : Type 0 where
  -- how many parts its share has
  pub parts : ℕ
  -- how many blocks the share counts
  pub blocks : ℕ
  -- the pass that owns the inode
  pub owner : Owned

-- of a place that has it; nothing counts where it is out
abbrev pub beside_of : {C B : Type 0} → Option (Exclusive (Beside C B)) → BesideValue
beside_of None = record { parts = 0; blocks = 0; owner = record { ino = 0; version = 0 } }
beside_of (Some there) = record {
  parts = there.value.blocks.parts;
  blocks = there.value.blocks.amount;
  owner = there.value.owner;
}
