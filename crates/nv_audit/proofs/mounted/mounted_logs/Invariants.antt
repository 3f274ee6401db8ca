use Rattle.std.proofs.Common.{◌≡◌}
use Rattle.nv_audit.proofs.MountedLogs.{front_logs}
use Rattle.nv_audit.proofs.mounted.mounted_logs.Given as goal

abbrev pub invariant-loop-ino : goal.invariant-loop-ino
invariant-loop-ino l = l.logs.items ≡ front_logs l.image l.ino
