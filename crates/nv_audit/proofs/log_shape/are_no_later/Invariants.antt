use Rattle.std.proofs.Common.{ℕ, ◌<◌, get_or}
use Rattle.nv_entry.specs.declared.item.Entry.{Entry}
use Rattle.nv_audit.specs.LogShape.{IsNoLater}
use Rattle.nv_audit.proofs.log_shape.are_no_later.Given as goal

abbrev pub invariant-loop-entry : goal.invariant-loop-entry
invariant-loop-entry l = (k : ℕ) (d : Entry) → k < l.entry-index → IsNoLater l.commit l.epoch (get_or l.log k d)
