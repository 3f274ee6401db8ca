use Rattle.std.proofs.Common.{◌≡◌, map, take}
use Rattle.nv_core.specs.Reports.{snap_counts}
use Rattle.nv_core.proofs.snaps.snaps_in.Given as goal

abbrev pub invariant-loop-place : goal.invariant-loop-place
invariant-loop-place l = l.living.items ≡ map (snap_counts l.book.state) (take l.place l.snapshots)
