-- What a service closes with, and why it refuses.
use Rattle.std.specs.Prelude.{◌≡◌, ◌⊎◌, ℕ, ◌<◌, ◌≤◌, List, length, map, slice_index, slice_index_or}
use Rattle.nv_base.specs.declared.fault.Fault.{Fault}
use Rattle.nv_base.specs.declared.fault.Fault.TheVariants.{Mismatch}
use Rattle.nv_base.specs.declared.fault.MismatchPart.TheVariants.{Lists}
use Rattle.nv_base.specs.declared.geometry.Geometry.{Geometry}
use Rattle.nv_cell.specs.Cell.{CellValue}
use Rattle.nv_parts.specs.AtRest.{IsMismatchOf}
use Rattle.nv_parts.specs.declared.parts.Parts.{Parts}
use Rattle.nv_sessions.specs.Locked.{version_at}
use Rattle.nv_sessions.specs.UnlockedParts.{AreAllSlots, AreInPlace, BesideCellValue, rest_told, cell_told}

-- no cell is older than what was seen of its inode; where nothing was seen, than at the opening
abbrev pub IsNotOlder : List ℕ → List ℕ → List CellValue → Type 0
IsNotOlder opened seen cells =
    (ino : ℕ) (d : CellValue) → ino < length cells
    → version_at opened ino (slice_index seen ino) ≤ (slice_index_or cells ino d).state.version

-- parts of a device, and what lay beside its cells
pub record AreBeside (geometry : Geometry) (parts : Parts) (cells : List BesideCellValue) : Type 0 where
  -- the parts are of the service's device
  pub device : parts.geometry ≡ geometry
  -- something lay beside the cell of each inode slot
  pub count : length cells ≡ geometry.numbers.inodes
  -- it stands in the order of the slots
  pub order : AreAllSlots cells
  -- of each slot it tells as many blocks as the cell has, and the cell's version
  pub told : map rest_told cells ≡ map cell_told parts.cells

-- WHY PARTS ARE NOT AT REST: the first part that is not as in a world at rest, or the lists, where
-- a cell came out of another slot's lock
abbrev pub IsDifference : Parts → List BesideCellValue → Fault → Type 0
IsDifference parts cells fault = IsMismatchOf parts fault ⊎ ((fault ≡ Mismatch Lists) × (¬ AreInPlace cells))
