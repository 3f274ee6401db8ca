use Rattle.std.proofs.Common.{◌≡◌, ◌++◌, drop}
use Rattle.std.specs.List.{flat_map}
use Rattle.nv_audit.specs.Image.{slot_numbers}
use Rattle.nv_audit.proofs.faults.numbers.all_numbers.Given as goal

abbrev pub invariant-loop-slot : goal.invariant-loop-slot
invariant-loop-slot l = l.numbers.items ++ flat_map slot_numbers (drop l.slot-index l.slots) ≡ flat_map slot_numbers l.slots
