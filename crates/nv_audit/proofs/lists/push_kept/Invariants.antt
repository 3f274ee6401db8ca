use Rattle.std.proofs.Common.{◌≡◌, ◌++◌, drop, map}
use Rattle.nv_entry.specs.Held.{keeps, retention_of}
use Rattle.nv_entry.specs.Log.{pairs}
use Rattle.nv_audit.specs.Lists.{blocks_kept}
use Rattle.nv_audit.proofs.lists.push_kept.Given as goal

abbrev pub invariant-loop-entry : goal.invariant-loop-entry
invariant-loop-entry l = record {
  left : l.left ≡ map (keeps (retention_of l.retention)) (pairs l.retention.block (drop l.entry-index l.log));
  used : l.used.items ++ blocks_kept (retention_of l.retention) (drop l.entry-index l.log)
      ≡ l.initial.used.items ++ blocks_kept (retention_of l.retention) l.log;
}
