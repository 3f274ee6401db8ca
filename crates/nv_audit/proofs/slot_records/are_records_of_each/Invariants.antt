use Rattle.std.proofs.Common.{ℕ, ◌<◌}
use Rattle.nv_epoch.specs.SnapList.{ids}
use Rattle.nv_audit.specs.KeptParts.{AreRecordsOf, cell_in, list_at}
use Rattle.nv_audit.specs.Records.{states_of}
use Rattle.nv_audit.proofs.slot_records.are_records_of_each.Given as goal

abbrev pub invariant-loop-place : goal.invariant-loop-place
invariant-loop-place l =
    (ino : ℕ) → ino < l.place → AreRecordsOf (ids l.snaps) (cell_in (states_of l.cells) ino) (list_at l.lists ino)
