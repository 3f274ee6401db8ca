-- What the steps rely on of the parts that are lent to them.
use Rattle.std.specs.Prelude.{◌≡◌, ℕ, ◌+◌, ◌<◌, List, length, slice_index_or, slice_set}
use Rattle.std.specs.List.{AllByRecursion}
use Rattle.nv_alloc.specs.Block.{BlockValue}
use Rattle.nv_alloc.specs.FreeList.{FreeBlocks}
use Rattle.nv_alloc.specs.Hand.{blocks_of}
use Rattle.nv_alloc.specs.declared.hand.Hand.{Hand}
use Rattle.nv_base.specs.Homes.{home_start}
use Rattle.nv_base.specs.declared.geometry.GeometryNumbers.{GeometryNumbers}
use Rattle.nv_machine.specs.World.{no_list}
use Rattle.nv_calls.specs.Prepared.{IsStill}
use Rattle.nv_calls.specs.SlotCells.{cell_in, lent_cells}
use Rattle.nv_cell.specs.Cell.{CellValue}
use Rattle.nv_core.specs.declared.shared.Shared.{Shared}

-- the list of a CPU
pub record IsListOf (g : GeometryNumbers) (cpu : ℕ) (list : FreeBlocks) : Type 0 where
  -- it begins where the CPU's home range begins
  pub start : list.start ≡ home_start g.blocks g.cpus cpu
  -- it ends where the next CPU's begins
  pub end : list.end ≡ home_start g.blocks g.cpus (cpu + 1)
  -- its blocks have the device's size
  pub size : list.size ≡ g.block

-- the lists of a device
pub record AreListsOf (g : GeometryNumbers) (lists : List FreeBlocks) : Type 0 where
  -- each CPU has its list
  pub count : length lists ≡ g.cpus
  -- each is of its CPU's home range
  pub each : (cpu : ℕ) → cpu < g.cpus → IsListOf g cpu (slice_index_or lists cpu no_list)

-- each list is that of its CPU
abbrev pub AreHome : Shared → Type 0
AreHome shared = AreListsOf shared.geometry.numbers shared.lists.items

-- all blocks in a hand are of the device
abbrev pub IsOfDevice : GeometryNumbers → Hand → Type 0
IsOfDevice g hand = AllByRecursion (λ (b : BlockValue). b.number < g.blocks) (blocks_of hand)

-- ---- cells among all

-- each of these slots has a cell of these
abbrev pub HaveSlots : List CellValue → List ℕ → Type 0
HaveSlots cells slots = (k : ℕ) → k < length slots → slice_index_or slots k 0 < length cells

-- all cells other than that of a slot are as they were
abbrev pub IsOnlyAt : ℕ → List CellValue → List CellValue → Type 0
IsOnlyAt ino old new = new ≡ slice_set old ino (cell_in new ino)

-- each of these slots has a cell
abbrev pub AreSlots : Shared → List ℕ → Type 0
AreSlots shared slots = HaveSlots shared.cells.items slots

-- ---- cells

-- the cells of these slots stand still
pub record AreStill (shared : Shared) (slots : List ℕ) : Type 0 where
  -- each of these slots has a cell
  pub there : AreSlots shared slots
  -- each has blocks of the device's size, and no entry past the tail
  pub still : AllByRecursion (λ (c : ℕ × CellValue). IsStill shared.geometry.numbers.block c.1.state)
      (lent_cells slots shared.cells.items)
