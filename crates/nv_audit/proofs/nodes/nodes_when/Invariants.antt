use Rattle.std.proofs.Common.{◌≡◌, ◌++◌, drop}
use Rattle.nv_audit.specs.Logged.{slots_of}
use Rattle.nv_audit.proofs.nodes.nodes_when.Given as goal

abbrev pub invariant-loop-place : goal.invariant-loop-place
invariant-loop-place l = l.slots.items ++ slots_of l.when (drop l.place l.logs) ≡ slots_of l.when l.logs
