use Rattle.std.proofs.Common.{drop}
use Rattle.nv_audit.specs.MountedLogs.{AreNoted}
use Rattle.nv_audit.proofs.mounted.put_notes.Given as goal

abbrev pub invariant-loop-place : goal.invariant-loop-place
invariant-loop-place l = AreNoted (drop l.place l.notes) l.initial.tails.items l.tails.items
