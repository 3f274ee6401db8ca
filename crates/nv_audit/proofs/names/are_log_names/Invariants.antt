use Rattle.std.proofs.Common.{ℕ, ◌<◌, get_or}
use Rattle.nv_entry.specs.declared.item.Entry.{Entry}
use Rattle.nv_audit.specs.Names.{IsItemName}
use Rattle.nv_audit.proofs.names.are_log_names.Given as goal

abbrev pub invariant-loop-entry : goal.invariant-loop-entry
invariant-loop-entry l = (k : ℕ) (d : Entry) → k < l.entry-index → IsItemName l.bound.entries l.index.names (get_or l.entries k d).item
