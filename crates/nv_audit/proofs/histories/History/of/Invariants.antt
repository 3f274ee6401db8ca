use Rattle.std.proofs.Common.{take}
use Rattle.nv_audit.specs.Histories.{IsHistoryBy}
use Rattle.nv_audit.proofs.histories.History.of.Given as goal

abbrev pub invariant-loop-entry : goal.invariant-loop-entry
invariant-loop-entry l = IsHistoryBy (take l.entry-index l.log) l.history
