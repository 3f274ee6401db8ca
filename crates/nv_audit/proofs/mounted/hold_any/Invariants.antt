use Rattle.std.proofs.Common.{◌≡◌, drop, map}
use Rattle.std.specs.List.{list_any}
use Rattle.nv_entry.specs.Held.{is_held}
use Rattle.nv_entry.specs.Log.{pairs}
use Rattle.nv_audit.proofs.Covers.{death_of}
use Rattle.nv_audit.proofs.mounted.hold_any.Given as goal

abbrev pub invariant-loop-entry : goal.invariant-loop-entry
invariant-loop-entry l = record {
  left : l.left ≡ map death_of (pairs l.logged.block (drop l.entry-index l.logged.log));
  same : list_any (is_held l.snapshots) (pairs l.logged.block (drop l.entry-index l.logged.log))
      ≡ list_any (is_held l.snapshots) (pairs l.logged.block l.logged.log);
}
