-- What a step leaves to the other actors.
use Rattle.std.specs.Prelude.{◌≡◌, ◌≢◌, ℕ, false, List, length, Some}
use Rattle.nv_alloc.specs.Numbers.{has}
use Rattle.nv_calls.specs.SlotCells.{cell_in, other_cells}
use Rattle.nv_core.specs.declared.shared.Shared.{Shared}

-- WHAT A STEP LEAVES TO OTHERS, where its call holds these slots
pub record LeavesRest (actor : ℕ) (held : List ℕ) (old new : Shared) : Type 0 where
  -- the device is the same
  pub geometry : new.geometry ≡ old.geometry
  -- no list comes or goes
  pub lists : length new.lists.items ≡ length old.lists.items
  -- no cell comes or goes
  pub count : length new.cells.items ≡ length old.cells.items
  -- each cell of a slot that the call does not hold is as it was
  pub cells : (ino : ℕ) → has held ino ≡ false → cell_in new.cells.items ino ≡ cell_in old.cells.items ino
  -- book and commit lock are as they were while another actor commits
  pub book : (other : ℕ) → old.holder ≡ Some other → other ≢ actor → (new.book ≡ old.book) × (new.holder ≡ old.holder)

-- a step changes of the cells those of these slots alone
pub record LeavesCells (slots : List ℕ) (old new : Shared) : Type 0 where
  -- the device is the same
  pub geometry : new.geometry ≡ old.geometry
  -- the lists are the same
  pub lists : new.lists ≡ old.lists
  -- the locks of slots are the same
  pub owners : new.owners ≡ old.owners
  -- the commit lock is the same
  pub holder : new.holder ≡ old.holder
  -- no cell comes or goes
  pub count : length new.cells.items ≡ length old.cells.items
  -- the cells of all other slots are as they were
  pub others : other_cells slots new.cells.items ≡ other_cells slots old.cells.items
