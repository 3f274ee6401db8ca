use Rattle.std.proofs.Common.{[]}
use Rattle.nv_audit.specs.KeptParts.{AreBySlot}
use Rattle.nv_audit.proofs.slot_records.empty_lists.Given as goal

abbrev pub invariant-loop-slot : goal.invariant-loop-slot
invariant-loop-slot l = AreBySlot l._slot [] l.lists.items
