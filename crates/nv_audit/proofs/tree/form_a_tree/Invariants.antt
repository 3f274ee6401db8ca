use Rattle.std.proofs.Common.{length, ◌-◌}
use Rattle.nv_audit.proofs.Trees.{IsUnderWay}
use Rattle.nv_audit.proofs.tree.form_a_tree.Given as goal

abbrev pub invariant-loop-next : goal.invariant-loop-next
invariant-loop-next l = IsUnderWay l.slots l.marks.items l.reached.items l.next

abbrev pub decreases-loop-next : goal.decreases-loop-next
decreases-loop-next l = length l.slots - l.next
