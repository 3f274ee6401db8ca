use Rattle.std.proofs.Common.{◌≡◌, ◌++◌, drop, map}
use Rattle.nv_audit.specs.Logged.{logged}
use Rattle.nv_audit.specs.Records.{states_of}
use Rattle.nv_audit.proofs.logged.logs_of.Given as goal

abbrev pub invariant-loop-cell : goal.invariant-loop-cell
invariant-loop-cell l =
    l.logs.items ++ map logged (states_of (drop l.cell-index l.cells)) ≡ map logged (states_of l.cells)
