use Rattle.std.proofs.Common.{◌≡◌, ◌++◌, drop, map}
use Rattle.nv_entry.specs.Held.{is_needed}
use Rattle.nv_entry.specs.Log.{pairs}
use Rattle.nv_audit.proofs.Covers.{death_of}
use Rattle.nv_audit.specs.Retained.{needed_by}
use Rattle.nv_audit.proofs.retained.needed_parts.Given as goal

abbrev pub invariant-loop-entry : goal.invariant-loop-entry
invariant-loop-entry l = record {
  left : l.rest ≡ map death_of (pairs l.logged.block (drop l.entry-index l.logged.log));
  needed : l.parts.items ++ map (is_needed l.snapshots) (pairs l.logged.block (drop l.entry-index l.logged.log))
      ≡ needed_by l.snapshots l.logged.block l.logged.log;
}
