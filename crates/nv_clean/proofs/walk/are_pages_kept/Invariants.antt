use Rattle.std.proofs.Common.{◌≡◌, ◌<◌, ◌==◌, ℕ, false}
use Rattle.nv_cell.specs.Readers.{counts_of}
use Rattle.nv_clean.proofs.walk.are_pages_kept.Given as goal

abbrev pub invariant-loop-k : goal.invariant-loop-k
invariant-loop-k l = (j : ℕ) → j < l.k → ((counts_of l.cell.state j).valid == 0) ≡ false
