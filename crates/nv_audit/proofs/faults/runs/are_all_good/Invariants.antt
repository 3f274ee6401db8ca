use Rattle.std.proofs.Common.{ℕ, ◌<◌}
use Rattle.nv_audit.specs.Faults.{IsRunGood}
use Rattle.nv_audit.proofs.faults.runs.are_all_good.Given as goal

abbrev pub invariant-loop-ino : goal.invariant-loop-ino
invariant-loop-ino l = (k : ℕ) → k < l.ino → IsRunGood l.image k
