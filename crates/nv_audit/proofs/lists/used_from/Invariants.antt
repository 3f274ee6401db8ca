use Rattle.std.proofs.Common.{◌≡◌, ◌++◌, drop}
use Rattle.nv_audit.specs.Lists.{used_from}
use Rattle.nv_audit.specs.Records.{states_of}
use Rattle.nv_audit.proofs.lists.used_from.Given as goal

abbrev pub invariant-loop-place : goal.invariant-loop-place
invariant-loop-place l =
    l.used.items ++ used_from l.snapshots l.deferred l.in_hands l.place (drop l.place (states_of l.cells))
    ≡ used_from l.snapshots l.deferred l.in_hands 0 (states_of l.cells)
