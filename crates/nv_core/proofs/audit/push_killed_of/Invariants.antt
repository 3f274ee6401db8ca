use Rattle.std.proofs.Common.{◌≡◌, ◌++◌, drop, map}
use Rattle.nv_core.specs.Audited.{killed_part}
use Rattle.nv_core.proofs.audit.push_killed_of.Given as goal

abbrev pub invariant-loop-dead : goal.invariant-loop-dead
invariant-loop-dead l = l.parts.items ++ map (killed_part l.ino) (drop l.dead-index l.killed) ≡ l.initial.parts.items ++ map
    (killed_part l.ino) l.killed
