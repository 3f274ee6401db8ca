use Rattle.std.proofs.Common.{take}
use Rattle.nv_entry.specs.Log.{IsLog}
use Rattle.nv_audit.proofs.faults.entries.is_log.Given as goal

abbrev pub invariant-loop-place : goal.invariant-loop-place
invariant-loop-place l = IsLog (take l.place l.entries)
