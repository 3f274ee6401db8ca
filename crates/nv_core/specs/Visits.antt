-- Whose blocks a cell has that is read.
use Rattle.std.specs.Prelude.{ℕ}
use Rattle.nv_cell.specs.Pages.{AreBytesOf}
use Rattle.nv_machine.specs.Reads.{bytes_among}
use Rattle.nv_machine.specs.World.{Shared, cell_at}

-- each block of a slot's cell is the only one of its number there
abbrev pub HasOwnBytes : Shared → ℕ → Type 0
HasOwnBytes s ino = AreBytesOf (cell_at s ino) (bytes_among (cell_at s ino).blocks)
