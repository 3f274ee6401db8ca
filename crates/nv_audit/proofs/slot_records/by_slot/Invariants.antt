use Rattle.std.proofs.Common.{take}
use Rattle.nv_audit.specs.KeptParts.{AreBySlot}
use Rattle.nv_audit.proofs.slot_records.by_slot.Given as goal

abbrev pub invariant-loop-record : goal.invariant-loop-record
invariant-loop-record l = AreBySlot l.slots (take l.record-index l.records) l.lists.items
