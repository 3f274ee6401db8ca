-- What a service opens with.
use Rattle.std.specs.Prelude.{ℕ, ◌+◌}
use Rattle.nv_parts.specs.declared.parts.Parts.{Parts}
use Rattle.nv_sessions.specs.Opened.{cell_blocks, list_blocks}

-- how many blocks the free lists and the cells have
abbrev pub blocks_in : Parts → ℕ
blocks_in parts = list_blocks parts.lists + cell_blocks parts.cells
