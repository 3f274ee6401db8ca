use Rattle.std.proofs.Common.{take}
use Rattle.nv_audit.specs.Tree.{IsOnce}
use Rattle.nv_audit.proofs.sound.is_once.Given as goal

abbrev pub invariant-loop-place : goal.invariant-loop-place
invariant-loop-place l = IsOnce (take l.place l.numbers)
