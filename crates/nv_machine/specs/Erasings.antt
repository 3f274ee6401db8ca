-- How often the inode of a slot was erased.
use Rattle.std.specs.Prelude.{ℕ, ◌+◌, ◌&&◌, not, if◌then◌else◌, List, [], ◌∷◌}
use Rattle.nv_cell.specs.Cell.{CellState}
use Rattle.nv_cell.specs.Readers.{has_inode}
use Rattle.nv_machine.specs.Step.{step}
use Rattle.nv_machine.specs.World.{Event, World, cell_at}

-- 1 where a slot had an inode and has none any more, else 0
abbrev pub erased_once : CellState → CellState → ℕ
erased_once old new = if has_inode old && not (has_inode new) then 1 else 0

-- HOW OFTEN events have erased the inode of a slot. Example: a file that is created and unlinked
-- was erased once, so the next inode there is of generation 2.
abbrev pub erasings : ℕ → World → List Event → ℕ
erasings ino w [] = 0
erasings ino w (e ∷ events) = erased_once (cell_at w.shared ino) (cell_at (step w e).world.shared ino) + erasings ino (step w e).world events
