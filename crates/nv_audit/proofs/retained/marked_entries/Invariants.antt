use Rattle.std.proofs.Common.{◌≡◌, ◌++◌, drop, length}
use Rattle.nv_entry.specs.Covered.{part_total}
use Rattle.nv_audit.specs.Retained.{marked_entries}
use Rattle.nv_audit.proofs.retained.marked_entries.Given as goal

abbrev pub invariant-loop-entry : goal.invariant-loop-entry
invariant-loop-entry l = record {
  left : length l.rest ≡ part_total (drop l.entry-index l.log);
  marked : l.entries.items ++ marked_entries (drop l.entry-index l.log) l.rest ≡ marked_entries l.log l.parts;
}
