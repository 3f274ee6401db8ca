use Rattle.nv_cell.specs.Cell.{log_of}
use Rattle.nv_audit.specs.KeptParts.{AreFirsts}
use Rattle.nv_audit.proofs.TakenAway.{AreTaken}
use Rattle.nv_audit.proofs.kept_parts.are_once_recorded.Given as goal

abbrev pub invariant-loop-record : goal.invariant-loop-record
invariant-loop-record l =
    AreFirsts (log_of l.cell.state) l.parts.firsts.items
    × AreTaken (log_of l.cell.state) l.cell.state.marks l.records l.record-index l.parts.left.items
