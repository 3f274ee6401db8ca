use Rattle.std.proofs.Common.{ℕ, ◌<◌, get_or}
use Rattle.nv_audit.specs.Faults.{FitsSlot}
use Rattle.nv_audit.specs.Image.{SlotImageValue}
use Rattle.nv_audit.proofs.faults.fit.fit_slots.Given as goal

abbrev pub invariant-loop-slot : goal.invariant-loop-slot
invariant-loop-slot l = (k : ℕ) (d : SlotImageValue) → k < l.slot-index → FitsSlot l.geometry.numbers (get_or l.slots k d)
