use Rattle.std.proofs.Common.{◌≡◌, ◌++◌, drop, map}
use Rattle.nv_entry.specs.Keys.{parts_of}
use Rattle.nv_entry.specs.Log.{pair_of, pairs_of}
use Rattle.nv_audit.specs.Owed.{died}
use Rattle.nv_audit.proofs.deaths.push_scanned.Given as goal

abbrev pub invariant-loop-place : goal.invariant-loop-place
invariant-loop-place l =
    l.deaths.items ++ died (map (pair_of l.block l.entry l.later) (drop l.place (parts_of l.entry.item)))
    ≡ l.initial.deaths.items ++ died (pairs_of l.block l.entry l.later)
