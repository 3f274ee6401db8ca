use Rattle.std.proofs.Common.{ℕ, ◌<◌, get_or}
use Rattle.nv_log.specs.Image.{IsPaged}
use Rattle.nv_audit.specs.Image.{SlotImageValue}
use Rattle.nv_audit.proofs.faults.chains.are_paged.Given as goal

abbrev pub invariant-loop-slot : goal.invariant-loop-slot
invariant-loop-slot l = (k : ℕ) (d : SlotImageValue) → k < l.slot-index → IsPaged l.page (get_or l.slots k d).chain
