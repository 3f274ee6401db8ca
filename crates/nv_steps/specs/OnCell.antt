-- Turns on the cell of one slot that the call holds: those of drains and of cleaners.
use Rattle.std.specs.Prelude.{◌≡◌, ℕ, Bool, [], ◌∷◌}
use Rattle.nv_cell.specs.Cell.{CellState}
use Rattle.nv_machine.specs.World.{Ending, HandState, Running, SnapshotOrCleaner, SnapshotOrCleanerStep, Unlock}
use Rattle.nv_steps.specs.Parts.{CellIs}
use Rattle.nv_steps.specs.Turns.{Made}

-- ---- calls

-- a call makes this step next, and holds this slot alone
pub record IsHolding (ino : ℕ) (step : SnapshotOrCleanerStep) (r : Running) : Type 0 where
  -- the next step
  pub next : r.next ≡ SnapshotOrCleaner step
  -- the slot that it holds
  pub slots : r.slots ≡ ino ∷ []

-- a call that is to end so: it unlocks next
abbrev pub once_ending : Ending → Running → Running
once_ending ending r = record r { ending = ending; next = Unlock 0 }

-- ---- turns

-- a turn that found the cell of a slot, and left it so
abbrev pub on_cell : ℕ → Running → HandState → Bool → CellState → CellState → Made
on_cell ino r h granted found left = record {
  running = r;
  hand = h;
  granted = granted;
  found = CellIs ino found ∷ [];
  left = CellIs ino left ∷ [];
}

-- a turn that read the cell of a slot, and changed nothing
abbrev pub over_cell : ℕ → Running → HandState → Bool → CellState → Made
over_cell ino r h granted cell = record {
  running = r;
  hand = h;
  granted = granted;
  found = CellIs ino cell ∷ [];
  left = [];
}
