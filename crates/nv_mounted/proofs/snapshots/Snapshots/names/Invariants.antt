use Rattle.std.proofs.Common.{◌≡◌, drop}
use Rattle.nv_mounted.specs.Snapshots.{named_snapshots}
use Rattle.nv_mounted.proofs.Listed.{behind}
use Rattle.nv_mounted.proofs.snapshots.Snapshots.names.Given as goal

-- the names so far and those that are left are all
abbrev pub invariant-loop-at : goal.invariant-loop-at
invariant-loop-at l =
    behind l.names.items (named_snapshots l.at (drop l.at l.self-inside.rows.items))
    ≡ named_snapshots 0 l.self-inside.rows.items
