use Rattle.std.proofs.Common.{◌≡◌, ◌++◌}
use Rattle.nv_audit.proofs.slot_records.push_records.Given as goal

abbrev pub invariant-loop-next : goal.invariant-loop-next
invariant-loop-next l = l.all.items ++ l.next-iterator ≡ l.initial.all.items ++ l.records
