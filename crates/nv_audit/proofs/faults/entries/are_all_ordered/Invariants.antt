use Rattle.std.proofs.Common.{ℕ, ◌<◌, get_or}
use Rattle.nv_audit.specs.Faults.{AreOrdered}
use Rattle.nv_audit.specs.Image.{SlotImageValue}
use Rattle.nv_audit.proofs.faults.entries.are_all_ordered.Given as goal

abbrev pub invariant-loop-slot : goal.invariant-loop-slot
invariant-loop-slot l =
    (k : ℕ) (d : SlotImageValue) → k < l.slot-index → AreOrdered l.commit l.epoch (get_or l.slots k d).chain.entries
