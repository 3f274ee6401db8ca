use Rattle.std.proofs.Common.{◌≡◌, ◌++◌, drop}
use Rattle.nv_entry.specs.Log.{pairs}
use Rattle.nv_audit.specs.MountedLogs.{pair_records}
use Rattle.nv_audit.specs.Owed.{died}
use Rattle.nv_audit.proofs.records_anew.push_all.Given as goal

abbrev pub invariant-loop-entry : goal.invariant-loop-entry
invariant-loop-entry l = record {
  left : l.left ≡ died (pairs l.logged.block (drop l.entry-index l.logged.log));
  told : l.records.items ++ pair_records l.snapshots l.ino (pairs l.logged.block (drop l.entry-index l.logged.log))
      ≡ l.initial.records.items ++ pair_records l.snapshots l.ino (pairs l.logged.block l.logged.log);
}
