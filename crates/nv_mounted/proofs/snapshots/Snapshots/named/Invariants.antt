use Rattle.std.proofs.Common.{◌≡◌, ℕ, ◌<◌, Option, get_or, false}
use Rattle.nv_mounted.specs.Snapshots.{has_name}
use Rattle.nv_mounted.specs.declared.snapshots.Snapshot.{Snapshot}
use Rattle.nv_mounted.proofs.snapshots.Snapshots.named.Given as goal

-- no snapshot before has the name
abbrev pub invariant-loop-at : goal.invariant-loop-at
invariant-loop-at l =
    (k : ℕ) (d : Option Snapshot) → k < l.at
    → has_name l.name (get_or l.self-inside.rows.items k d) ≡ false
