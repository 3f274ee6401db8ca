use Rattle.std.proofs.Common.{[]}
use Rattle.nv_audit.specs.Pending.{ArePendingOf}
use Rattle.nv_audit.proofs.pending.none_pending.Given as goal

abbrev pub invariant-loop-slot : goal.invariant-loop-slot
invariant-loop-slot l = ArePendingOf l._slot [] [] l.lists.items
