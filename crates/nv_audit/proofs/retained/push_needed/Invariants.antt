use Rattle.std.proofs.Common.{◌≡◌, ◌++◌, drop, map}
use Rattle.nv_audit.specs.Retained.{is_needed_from}
use Rattle.nv_audit.proofs.retained.push_needed.Given as goal

abbrev pub invariant-loop-death : goal.invariant-loop-death
invariant-loop-death l =
    l.parts.items ++ map (is_needed_from l.snapshots l.birth) (drop l.death-index l.deaths)
    ≡ l.initial.parts.items ++ map (is_needed_from l.snapshots l.birth) l.deaths
