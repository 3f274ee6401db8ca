-- A whole call: made ready over its cells, filled with the text of a source, and committed.
use Rattle.std.specs.Prelude.{ℕ, List}
use Rattle.std.specs.List.{AllByRecursion}
use Rattle.nv_alloc.specs.Queue.{QueueValue}
use Rattle.nv_alloc.specs.declared.hand.Hand.{Hand}
use Rattle.nv_book.specs.Book.{BookValue}
use Rattle.nv_cell.specs.Cell.{CellValue, IsCell}
use Rattle.nv_entry.specs.Sound.{IsSound}
use Rattle.nv_calls.specs.AllCalls.{effect}
use Rattle.nv_calls.specs.CanCommit.{CanCommit}
use Rattle.nv_calls.specs.Commit.{begun, stamp_of}
use Rattle.nv_calls.specs.Committed.{ChangesPlanned, committed}
use Rattle.nv_calls.specs.FillPages.{sourced, with_blocks}
use Rattle.nv_calls.specs.Filled.{HavePages}
use Rattle.nv_calls.specs.Nodes.{HaveBytes, nodes_in, slots_by}
use Rattle.nv_calls.specs.Plain.{Change}
use Rattle.nv_calls.specs.Prepared.{CanReady, HaveNoLessRoom, IsReadyBy, taken_by}
use Rattle.nv_calls.specs.Ready.{ReadyValue}
use Rattle.nv_calls.specs.declared.update.Update.{Update}

-- all that stands before, in and after one whole call
pub record WholeCall : Type 0 where
  -- the call
  pub update : Update
  -- what the call holds before it is made ready
  pub hand : Hand
  -- the cells before the call
  pub before : List (ℕ × CellValue)
  -- the cells once the call was made ready
  pub now : List (ℕ × CellValue)
  -- the cells after the commit
  pub later : List (ℕ × CellValue)
  -- what was ready
  pub ready : ReadyValue
  -- the data blocks once they were filled
  pub blocks : QueueValue
  -- the bytes of the source, by their place in the text
  pub byte_at : ℕ → ℕ
  -- the book once the commit was entered
  pub book : BookValue
  -- the numbers of the living snapshots
  pub living : List ℕ
  -- the CPU whose journal the commit may open
  pub cpu : ℕ

-- what was ready, with the filled blocks
abbrev pub filled_of : WholeCall → ReadyValue
filled_of call = with_blocks call.blocks call.ready

-- the changes that the call says, by the nodes of its cells before it
abbrev pub effect_of : WholeCall → List Change
effect_of call = effect (nodes_in call.before) (taken_by call.before call.hand call.update).made (sourced call.byte_at call.update)

-- a whole call was made ready, filled and committed over the same cells
pub record IsWholeCall (bytes : ℕ → List ℕ) (call : WholeCall) : Type 0 where
  -- the call could be made ready
  pub can_ready : CanReady call.before call.hand call.update
  -- making it ready left the cells as they were, with no less room
  pub room : HaveNoLessRoom call.before call.now
  -- the call was made ready over these cells
  pub ready : IsReadyBy call.before call.hand call.update call.now call.ready
  -- the data blocks were filled with the call's pages
  pub filled : HavePages bytes call.now call.byte_at call.ready call.blocks.blocks
  -- what was filled could be committed
  pub can_commit : CanCommit call.now call.book call.cpu (filled_of call)
  -- the planned cells are committed, and the other cells stay
  pub changes : ChangesPlanned call.ready.plans
      (committed call.living call.now (begun (stamp_of call.book.state) (filled_of call))) call.now call.later
  -- each cell after the call is whole, as each cell is at all times
  pub cells : AllByRecursion (λ c. IsCell c.1.state) call.later

-- cells with sound logs, by what their blocks have
pub record HaveSoundLogs (bytes : ℕ → List ℕ) (block : ℕ) (cells : List (ℕ × CellValue)) : Type 0 where
  -- `bytes` gives for the number of each block what this block has
  pub blocks : HaveBytes bytes block cells
  -- each log is sound by these bytes
  pub logs : (ino : ℕ) → IsSound bytes block (slots_by cells ino).log
