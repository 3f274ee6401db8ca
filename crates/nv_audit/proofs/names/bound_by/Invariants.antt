use Rattle.std.proofs.Common.{take}
use Rattle.nv_audit.specs.Names.{TellsNames}
use Rattle.nv_audit.proofs.names.bound_by.Given as goal

abbrev pub invariant-loop-entry : goal.invariant-loop-entry
invariant-loop-entry l = TellsNames (take l.entry-index l.log) l.bound.entries
