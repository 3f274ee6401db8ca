use Rattle.nv_audit.proofs.Sized.{AreSoFar, itself}
use Rattle.nv_audit.proofs.faults.fit.are_sized.Given as goal

abbrev pub invariant-loop-block : goal.invariant-loop-block
invariant-loop-block l = AreSoFar l.size itself l.blocks l.block-index
