use Rattle.std.proofs.Common.{◌≡◌, ◌++◌, drop}
use Rattle.nv_epoch.specs.SnapList.{ids}
use Rattle.nv_audit.specs.Owed.{owed_records_from}
use Rattle.nv_audit.specs.Records.{states_of}
use Rattle.nv_audit.proofs.owed.owed_records.Given as goal

abbrev pub invariant-loop-place : goal.invariant-loop-place
invariant-loop-place l =
    l.owed.items ++ owed_records_from (ids l.snaps) l.in_hands l.place (drop l.place (states_of l.cells))
    ≡ owed_records_from (ids l.snaps) l.in_hands 0 (states_of l.cells)
