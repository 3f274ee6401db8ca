use Rattle.nv_audit.proofs.GatheredParts.{AreGathered}
use Rattle.nv_audit.proofs.kept_parts.kept_parts.Given as goal

abbrev pub invariant-loop-entry : goal.invariant-loop-entry
invariant-loop-entry l = AreGathered l.cell.state l.entry l.parts
