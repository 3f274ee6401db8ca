-- Cells that are out of their places.
use Rattle.std.specs.Prelude.{◌≡◌, ℕ, ◌+◌, ◌≤◌, List, [], map, Option, Some, None, slice_index, slice_index_or, vec_capacity}
use Rattle.std.specs.Option.{option_map}
use Rattle.std.specs.Sync.RwLock.{write_guard_value}
use Rattle.core.specs.declared.rw.RwLockWriteGuard.{RwLockWriteGuard}
use Rattle.nv_calls.specs.Cells.{no_cell}
use Rattle.nv_cell.specs.Cell.{CellValue, IsCell}
use Rattle.nv_sessions.specs.Locked.{LockedValue, version_at}
use Rattle.nv_sessions.specs.declared.cell_list.CellList.{CellList}
use Rattle.nv_sessions.specs.declared.cell_list.TakenCell.{TakenCell}

-- ---- the cells of a call

-- what stands past the last one
abbrev pub no_taken : TakenCell
no_taken = record { ino = 0; before = 0; cell = no_cell.1 }

-- the one at a place of the list
abbrev pub taken_at : List TakenCell → ℕ → TakenCell
taken_at items k = slice_index_or items k no_taken

-- the number of an inode, and its cell
abbrev pub pair : TakenCell → ℕ × CellValue
pair taken = (taken.ino, taken.cell)

-- as a change sees them
abbrev pub pairs : List TakenCell → List (ℕ × CellValue)
pairs items = map pair items

-- their numbers
abbrev pub inos_of : List TakenCell → List ℕ
inos_of items = map (λ (t : TakenCell). t.ino) items

-- the versions of their places
abbrev pub versions_of : List TakenCell → List ℕ
versions_of items = map (λ (t : TakenCell). t.before) items

-- no cells, in room for those of a call
abbrev pub IsRoom : CellList → Type 0
IsRoom list = (list.cells.items ≡ []) × (4 ≤ vec_capacity list.cells)

-- ---- their places

-- the place of a cell, which is empty
abbrev pub empty_place : TakenCell → LockedValue
empty_place taken = record { ino = taken.ino; version = taken.before; cell = None }

-- the values of guards
abbrev pub places_of : List (Option (RwLockWriteGuard LockedValue)) → List (Option LockedValue)
places_of guards = map (option_map write_guard_value) guards

-- EACH GUARD IS THAT OF THE PLACE of the cell that stands where it stands
abbrev pub ArePlaces : List (Option (RwLockWriteGuard LockedValue)) → List TakenCell → Type 0
ArePlaces guards items = places_of guards ≡ map (λ (t : TakenCell). Some (empty_place t)) items

-- ---- versions

-- a cell as it was taken out of its place
pub record IsTaken (opened notes : List ℕ) (t : TakenCell) : Type 0 where
  -- it is a cell
  pub whole : IsCell t.cell.state
  -- it has the version of its place
  pub version : t.cell.state.version ≡ t.before
  -- these notes have no higher version than its place
  pub met : version_at opened t.ino (slice_index notes t.ino) ≤ t.before

-- a cell that may go back into its place
pub record GoesBack (opened notes : List ℕ) (t : TakenCell) : Type 0 where
  -- it has no lower version than its place
  pub least : t.before ≤ t.cell.state.version
  -- it has at most the next one
  pub most : t.cell.state.version ≤ t.before + 1
  -- these notes have no higher version than its place
  pub met : version_at opened t.ino (slice_index notes t.ino) ≤ t.before

-- a cell that is at the version of its place
abbrev pub IsStill : TakenCell → Type 0
IsStill t = t.cell.state.version ≡ t.before

-- a cell that is at the next version
abbrev pub IsNext : TakenCell → Type 0
IsNext t = t.cell.state.version ≡ t.before + 1
