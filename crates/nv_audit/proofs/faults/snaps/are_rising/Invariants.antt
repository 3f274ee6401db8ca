use Rattle.std.proofs.Common.{take}
use Rattle.nv_epoch.specs.Holders.{IsRising}
use Rattle.nv_audit.proofs.faults.snaps.are_rising.Given as goal

abbrev pub invariant-loop-place : goal.invariant-loop-place
invariant-loop-place l = IsRising (take l.place l.snapshots)
