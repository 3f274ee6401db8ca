-- The last entries of a log, which have as many parts each.
use Rattle.std.specs.Prelude.{◌≡◌, ℕ, ◌+◌, ◌-◌, ◌*◌, ◌<◌, ◌≤◌, ◌^◌, List, length}
use Rattle.nv_cell.specs.declared.part_ends.EvenRun.{EvenRun}
use Rattle.nv_cell.specs.Runs.{start_at}

-- the last entries of a log have as many parts each.
-- Example: behind an Init, Writes of one page have 2 parts each, which begin at 3, 5, 7.
pub record IsEvenRun (s : EvenRun) (ends : List ℕ) : Type 0 where
  -- the run begins at an entry, or behind the last one
  pub within : s.from ≤ length ends
  -- in the run, and at the place behind all entries, parts begin at equal distances
  pub even : (i : ℕ) → s.from ≤ i → i ≤ length ends → start_at ends i ≡ s.start + (i - s.from) * s.parts
  -- the parts of the run begin below 2^64
  pub small : s.start + (length ends - s.from) * s.parts < 2 ^ 64
