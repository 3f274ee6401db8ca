use Rattle.std.proofs.Common.{◌≡◌, ◌++◌, drop}
use Rattle.nv_entry.specs.Log.{pairs}
use Rattle.nv_audit.specs.Owed.{died}
use Rattle.nv_audit.proofs.deaths.deaths_scanned.Given as goal

abbrev pub invariant-loop-place : goal.invariant-loop-place
invariant-loop-place l =
    l.deaths.items ++ died (pairs l.logged.block (drop l.place l.logged.log)) ≡ died (pairs l.logged.block l.logged.log)
