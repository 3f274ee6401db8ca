use Rattle.std.proofs.Common.{ℕ, ◌<◌, get_or}
use Rattle.nv_book.specs.declared.record.Record.{Record}
use Rattle.nv_epoch.specs.SnapList.{ids}
use Rattle.nv_audit.specs.KeptParts.{IsRecordOf}
use Rattle.nv_audit.proofs.kept_parts.are_of_parts.Given as goal

abbrev pub invariant-loop-record : goal.invariant-loop-record
invariant-loop-record l = (k : ℕ) (d : Record) → k < l.record-index → IsRecordOf (ids l.snaps) l.cell.state (get_or l.records k d)
