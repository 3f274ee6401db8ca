-- Runs that a list is cut into, by where they end.
use Rattle.std.specs.Prelude.{ℕ, ◌-◌, ◌<◌, ◌≤◌, ◌==◌, if◌then◌else◌, List, length, slice_index_or}

-- where the run `i` begins, which is where the one before it ends
abbrev pub start_at : List ℕ → ℕ → ℕ
start_at ends i = if i == 0 then 0 else slice_index_or ends (i - 1) 0

-- where the run `i` ends; 0 where there is no such run
abbrev pub end_at : List ℕ → ℕ → ℕ
end_at ends i = slice_index_or ends i 0

-- these runs cover a list of so many items
pub record AreRuns (ends : List ℕ) (len : ℕ) : Type 0 where
  -- no run ends before an earlier one
  pub rising : (i j : ℕ) → i ≤ j → j < length ends → end_at ends i ≤ end_at ends j
  -- each item is before the end of the last run
  pub all : (n : ℕ) → n < len → (0 < length ends) × (n < end_at ends (length ends - 1))

-- the item `n` stands in the run `i`
pub record IsInRun (ends : List ℕ) (n i : ℕ) : Type 0 where
  -- there is such a run
  pub within : i < length ends
  -- the item is not before the run begins
  pub start : start_at ends i ≤ n
  -- the item is before the run ends
  pub end : n < end_at ends i
