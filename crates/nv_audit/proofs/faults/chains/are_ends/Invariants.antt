use Rattle.nv_audit.proofs.Paged.{AreSoFar}
use Rattle.nv_audit.proofs.faults.chains.are_ends.Given as goal

abbrev pub invariant-loop-place : goal.invariant-loop-place
invariant-loop-place l = AreSoFar l.page l.len l.ends l.start l.place
