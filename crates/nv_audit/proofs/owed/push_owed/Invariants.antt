use Rattle.std.proofs.Common.{◌≡◌, ◌++◌, drop}
use Rattle.nv_cell.specs.Cell.{log_of}
use Rattle.nv_entry.specs.Log.{pairs}
use Rattle.nv_epoch.specs.SnapList.{ids}
use Rattle.nv_audit.specs.Owed.{died, owed_records, owed_records_by}
use Rattle.nv_audit.proofs.owed.push_owed.Given as goal

abbrev pub invariant-loop-entry : goal.invariant-loop-entry
invariant-loop-entry l = record {
  left : l.left ≡ died (pairs l.cell.state.block (drop l.entry-index (log_of l.cell.state)));
  owed : l.owed.items ++ owed_records (ids l.snaps) l.named l.ino (pairs l.cell.state.block (drop l.entry-index (log_of l.cell.state)))
      ≡ l.initial.owed.items ++ owed_records_by (ids l.snaps) l.named l.ino l.cell.state;
}
