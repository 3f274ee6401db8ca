-- Runs of consecutive numbers.
use Rattle.std.specs.Prelude.{◌≡◌, ℕ, ◌+◌, ◌-◌, ◌<◌, ◌≤◌, ◌==◌, ◌++◌, List, [], ◌∷◌, if◌then◌else◌}
use Rattle.std.specs.List.{range_with_len}
use Rattle.nv_alloc.specs.declared.runs.FreeRun.{FreeRun}

-- the runs with a number before them: it joins a first run that begins right after it
abbrev pub join : ℕ → List FreeRun → List FreeRun
join n [] = record { first = n; last = n } ∷ []
join n (run ∷ runs) =
    if run.first == n + 1 then record { first = n; last = run.last } ∷ runs else record { first = n; last = n } ∷ run ∷ runs

-- the maximal runs of consecutive numbers of a rising list, in rising order.
-- Example: 3, 5, 6, 7 has the runs 3 and 5 to 7.
abbrev pub free_runs_of : List ℕ → List FreeRun
free_runs_of [] = []
free_runs_of (n ∷ numbers) = join n (free_runs_of numbers)

-- all numbers of the runs, in order
abbrev pub numbers_in : List FreeRun → List ℕ
numbers_in [] = []
numbers_in (run ∷ runs) = range_with_len run.first (run.last + 1 - run.first) ++ numbers_in runs

-- each run has a number, and at least one number is missing before the next run
abbrev pub HaveGaps : List FreeRun → Type 0
HaveGaps [] = Unit {0}
HaveGaps (run ∷ []) = run.first ≤ run.last
HaveGaps (run ∷ next ∷ runs) = (run.first ≤ run.last) × (run.last + 1 < next.first) × HaveGaps (next ∷ runs)

-- a list of numbers is cut into runs
pub record IsCutInto (numbers : List ℕ) (runs : List FreeRun) : Type 0 where
  -- the runs have exactly the numbers of the list, in their order
  pub all : numbers_in runs ≡ numbers
  -- no run is empty, and none could be longer
  pub maximal : HaveGaps runs
