-- The shape of settled logs.
use Rattle.std.specs.Prelude.{ℕ}
use Rattle.nv_cell.specs.Shape.{IsLeftShaped}
use Rattle.nv_machine.specs.Settled.{settled}
use Rattle.nv_machine.specs.World.{Shared}

-- each settled log is of its shape
abbrev pub AreShaped : ℕ → Shared → Type 0
AreShaped block s = (ino : ℕ) → IsLeftShaped block (settled s ino)
