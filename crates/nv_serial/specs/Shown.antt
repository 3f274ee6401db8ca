-- The slots with numbers that the cells of the machine show.
use Rattle.std.specs.Prelude.{List, [], ◌∷◌}
use Rattle.nv_alloc.specs.Block.{BlockValue, number_of}
use Rattle.nv_cell.specs.Cell.{CellState}
use Rattle.nv_entry.specs.declared.item.Entry.{Entry}
use Rattle.nv_log.specs.Chain.{pages_of}
use Rattle.nv_serial.specs.LogPages.{Page}
use Rattle.nv_serial.specs.Serial.{NumberedSlot}

-- the pages of a chain, each with its entries; the last ones may have none
abbrev pub pages_told : List BlockValue → List (List Entry) → List Page
pages_told [] parts = []
pages_told (b ∷ blocks) [] = record { number = number_of b; entries = [] } ∷ pages_told blocks []
pages_told (b ∷ blocks) (part ∷ parts) = record { number = number_of b; entries = part } ∷ pages_told blocks parts

-- a cell as the world with numbers has it
abbrev pub slot_told : CellState → NumberedSlot
slot_told cell = record { generation = cell.generation; pages = pages_told cell.chain.blocks (pages_of cell.chain) }
