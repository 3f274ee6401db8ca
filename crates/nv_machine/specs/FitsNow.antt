-- What is known of a call between its check and its commit point, and the bytes of all blocks of all cells.
use Rattle.std.specs.Prelude.{ℕ, Bool, true, false, List, Option}
use Rattle.std.specs.List.{flat_map}
use Rattle.nv_alloc.specs.Block.{BlockValue}
use Rattle.nv_cell.specs.Cell.{CellState}
use Rattle.nv_machine.specs.Reads.{bytes_among}
use Rattle.nv_machine.specs.World.{Append, Close, Enter, Next, Open, Publish, Ready, Shared, TakeBlocks, TakeLogPages}

-- the blocks of all parts of all cells
abbrev pub all_parts : List CellState → List (Option BlockValue)
all_parts cells = flat_map (λ (c : CellState). c.blocks) cells

-- the bytes of the block of that number among those of all cells
abbrev pub bytes_in : Shared → ℕ → List ℕ
bytes_in s number = bytes_among (all_parts s.cells) number

-- a call has passed its check, and has not yet had its commit point
abbrev pub is_checked : Next → Bool
is_checked (TakeBlocks asked) = true
is_checked (TakeLogPages asked) = true
is_checked Ready = true
is_checked Enter = true
is_checked (Append place) = true
is_checked Open = true
is_checked (Publish place) = true
is_checked Close = true
is_checked other = false
