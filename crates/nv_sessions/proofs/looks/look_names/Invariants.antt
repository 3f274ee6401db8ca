use Rattle.nv_sessions.specs.Refusing.{LooksFor}
use Rattle.nv_sessions.proofs.looks.look_names.Given as goal

-- only a call that looks names up has found something
abbrev pub invariant-loop-place : goal.invariant-loop-place
invariant-loop-place g l = LooksFor l.update l.looked
