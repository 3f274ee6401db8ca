-- How many log pages a plan needs.
use Rattle.std.specs.Prelude.{ℕ, ◌==◌, Bool, false, List, ◌++◌, length, map, replicate, take, Option, Some, None}
use Rattle.std.specs.List.{sum_by}
use Rattle.nv_log.specs.Chain.{pages_for}
use Rattle.nv_cell.specs.Cell.{CellValue}
use Rattle.nv_calls.specs.Slots.{items_for}
use Rattle.nv_calls.specs.declared.plan.InodePlan.{InodePlan}

-- how many pages the items that a plan has for a cell need, beyond those that its log has
abbrev pub pages_needed : List InodePlan → ℕ × CellValue → ℕ
pages_needed plan c = pages_for c.1.state.chain (length (items_for plan c.0))

-- how many log pages a plan needs in all cells
abbrev pub pages_wanted : List (ℕ × CellValue) → List InodePlan → ℕ
pages_wanted cells plan = sum_by (pages_needed plan) cells

-- ---- entries

-- how many entries each inode of a plan gets, at three places; those that are left have none
abbrev pub entry_counts : List InodePlan → List (ℕ × ℕ)
entry_counts plan = take 3 (map (λ p. (p.handle.ino, length p.items)) plan ++ replicate 3 (0, 0))

-- ---- runs

-- a number goes on with a run, where that run would go on with this one
abbrev pub goes_on : Option ℕ → ℕ → Bool
goes_on None n = false
goes_on (Some next) n = next == n
