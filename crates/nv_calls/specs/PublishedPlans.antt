-- What a commit makes of its cells by the publish of all its entries.
use Rattle.std.specs.Prelude.{◌≡◌, ℕ, ◌<◌, List, length}
use Rattle.nv_cell.specs.Cell.{CellValue, killed_by, published}
use Rattle.nv_calls.specs.CanCommit.{KillsAsTold}
use Rattle.nv_calls.specs.Cells.{state_at, value_at}
use Rattle.nv_calls.specs.Committed.{ChangesPlanned, HaveAppendRoom, HaveSamePlaces, cell_place_of}
use Rattle.nv_calls.specs.Ready.{CellCommitValue, plan_at}

-- the entries of all plans are published, and the plans note what that killed
pub record PublishesAll (plans noted : List CellCommitValue) (old new : List (ℕ × CellValue)) : Type 0 where
  -- each planned cell is published, and the other cells stay
  pub cells : ChangesPlanned plans (λ j. published (state_at old (cell_place_of plans j))) old new
  -- each planned cell keeps its room to append, and has none for killed parts
  pub room : HaveAppendRoom plans (λ j. (value_at old (cell_place_of plans j)).room) new
  -- each plan notes the parts that its publish killed
  pub killed : (j : ℕ) → j < length plans → (plan_at noted j).killed ≡ killed_by (state_at old (cell_place_of plans j))
  -- each publish killed what was told before
  pub told : (j : ℕ) → j < length plans → KillsAsTold (state_at old (cell_place_of plans j))
  -- the plans are of the same cells as before
  pub places : HaveSamePlaces plans noted
