use Rattle.nv_audit.proofs.EachOnce.{AreMarkedOnce}
use Rattle.nv_audit.proofs.blocks.marked_once.Given as goal

abbrev pub invariant-loop-number : goal.invariant-loop-number
invariant-loop-number l = AreMarkedOnce l.blocks l.numbers l.number-index l.marks.items
