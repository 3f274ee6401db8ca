use Rattle.std.proofs.Common.{drop}
use Rattle.nv_audit.specs.Logged.{AreEmpty}
use Rattle.nv_audit.proofs.nodes.slots_in_use.Given as goal

abbrev pub invariant-loop-place : goal.invariant-loop-place
invariant-loop-place l = AreEmpty (drop l.place l.logs)
