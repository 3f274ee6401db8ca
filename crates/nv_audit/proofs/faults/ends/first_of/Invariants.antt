use Rattle.std.proofs.Common.{◌≡◌}
use Rattle.nv_audit.proofs.Found.{found_from}
use Rattle.nv_audit.proofs.faults.ends.first_of.Given as goal

abbrev pub invariant-loop-place : goal.invariant-loop-place
invariant-loop-place l = found_from l.places l.number l.place-index ≡ found_from l.places l.number 0
