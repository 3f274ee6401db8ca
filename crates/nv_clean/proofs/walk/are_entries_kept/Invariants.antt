use Rattle.std.proofs.Common.{◌≡◌, ◌+◌, ◌<◌, ℕ, false, get_or, true}
use Rattle.nv_cell.specs.Readers.{there_flags}
use Rattle.nv_clean.proofs.walk.are_entries_kept.Given as goal

abbrev pub invariant-loop-place : goal.invariant-loop-place
invariant-loop-place l = (k : ℕ) → k + 1 < l.place → get_or (there_flags l.cell.state) k false ≡ true
