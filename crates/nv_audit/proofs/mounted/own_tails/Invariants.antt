use Rattle.std.proofs.Common.{◌≡◌, ◌++◌, drop}
use Rattle.nv_audit.proofs.MountedLogs.{own_tails}
use Rattle.nv_audit.proofs.mounted.own_tails.Given as goal

abbrev pub invariant-loop-slot : goal.invariant-loop-slot
invariant-loop-slot l = l.tails.items ++ own_tails (drop l.slot-index l.slots) ≡ own_tails l.slots
