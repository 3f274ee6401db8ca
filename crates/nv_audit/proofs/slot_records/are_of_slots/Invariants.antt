use Rattle.std.proofs.Common.{ℕ, ◌<◌, get_or}
use Rattle.nv_book.specs.declared.record.Record.{Record}
use Rattle.nv_audit.proofs.slot_records.are_of_slots.Given as goal

abbrev pub invariant-loop-record : goal.invariant-loop-record
invariant-loop-record l = (k : ℕ) (d : Record) → k < l.record-index → (get_or l.records k d).ino < l.slots
