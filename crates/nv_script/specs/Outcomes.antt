-- How the program ends.
use Rattle.std.specs.Prelude.{ℕ}
use Rattle.nv_script.specs.declared.outcome.Outcome.{Outcome}
use Rattle.nv_script.specs.declared.outcome.Outcome.TheVariants.{Played, Shown, Refused, OutOfMemory, Failed}

-- the exit status
abbrev pub status_of : Outcome → ℕ
status_of Played = 0
status_of Shown = 0
status_of Refused = 2
status_of OutOfMemory = 1
status_of (Failed fault) = 1
