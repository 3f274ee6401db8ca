-- What each step of a commit is lent, and what it leaves.
use Rattle.std.specs.Prelude.{◌≡◌}
use Rattle.nv_calls.specs.Commit.{CommitValue}
use Rattle.nv_calls.specs.Progress.{step_of}
use Rattle.nv_calls.specs.SlotCells.{lent_cells}
use Rattle.nv_calls.specs.declared.progress.CommitStep.{CommitStep}
use Rattle.nv_core.specs.Committing.{IsCommitting}
use Rattle.nv_core.specs.Frames.{LeavesCells}
use Rattle.nv_core.specs.Parts.{AreSlots}
use Rattle.nv_core.specs.Rooms.{IsHandOf, committing_cpu}
use Rattle.nv_core.specs.Shown.{ShownCall, slots_in}
use Rattle.nv_core.specs.GhostCalls.{IsCommitOf}
use Rattle.nv_core.specs.declared.running.Running.{Running}
use Rattle.nv_core.specs.declared.shared.Shared.{Shared}

-- a commit is on its way, and this step comes next
pub record IsAtStep (next : CommitStep) (shared : Shared) (running : Running) (commit : CommitValue) : Type 0 where
  -- each slot of its call has a cell
  pub slots : AreSlots shared (slots_in running.slots)
  -- it has come so far over these cells and this book
  pub committing : IsCommitting (committing_cpu shared) (lent_cells (slots_in running.slots) shared.cells.items) shared.book commit
  -- this step comes next
  pub step : step_of commit ≡ next
  -- its hand is for blocks of the device's size
  pub sized : IsHandOf shared.geometry.numbers commit.hand

-- a commit has made a step
pub record HasStepped (running : Running) (old new : Shared) (before after : CommitValue) : Type 0 where
  -- it is still of the call that is told
  pub told : (told : ShownCall) → IsCommitOf (slots_in running.slots) before told → IsCommitOf (slots_in running.slots) after told
  -- it is still on its way
  pub committing : IsCommitting (committing_cpu new) (lent_cells (slots_in running.slots) new.cells.items) new.book after
  -- its hand is for blocks of the device's size
  pub sized : IsHandOf new.geometry.numbers after.hand
  -- the cells of all other slots are as they were
  pub rest : LeavesCells (slots_in running.slots) old new
