-- A commit raises the version of each cell that it publishes by one.
use Rattle.std.proofs.Common.{◌≡◌, ℕ, ◌+◌, ◌∙◌, List, ap}
use Rattle.nv_calls.specs.Cells.{state_at, value_at}
use Rattle.nv_calls.specs.Commit.{CommitValue}
use Rattle.nv_calls.specs.Committed.{committed, hand_before, killing, place_before, cell_place_of}
use Rattle.nv_calls.specs.Ready.{plan_at}
use Rattle.nv_calls.specs.Retiring.{retired}
use Rattle.nv_cell.specs.Cell.{CellState, CellValue}
use Rattle.nv_calls.proofs.Grown.{plan_grows}
use Rattle.nv_calls.proofs.Next.{by_erased, keeps}

pub committed_version : (living : List ℕ) (cells : List (ℕ × CellValue)) (commit : CommitValue) (j : ℕ)
    → (committed living cells commit j).version ≡ (state_at cells (cell_place_of commit.plans j)).version + 1
committed_version living cells commit j =
    let k = killing cells commit j in
    let cell = value_at cells (cell_place_of commit.plans j) in
    let kept = keeps living k.ino commit.stamp.epoch k.parts k.cell in
    let items = (plan_at commit.plans j).items in
    let grows = plan_grows commit.stamp (place_before commit.plans j) items (hand_before cells commit j) cell in
    let is = kept.version ∙ ap (λ (n : ℕ). n + 1) grows.version in
    by_erased (λ (c : CellState). c.version ≡ cell.state.version + 1) (retired living k.ino commit.stamp.epoch k.parts k.cell) is is
