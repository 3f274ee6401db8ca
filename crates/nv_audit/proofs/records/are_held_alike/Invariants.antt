use Rattle.std.proofs.Common.{ℕ, ◌<◌, get_or}
use Rattle.nv_audit.specs.PartLists.{HaveSameParts}
use Rattle.nv_audit.specs.Records.{recorded_in}
use Rattle.nv_audit.proofs.records.are_held_alike.Given as goal

abbrev pub invariant-loop-snapshot : goal.invariant-loop-snapshot
invariant-loop-snapshot l = (k : ℕ) (d : ℕ) → k < l.snapshot-index
    → HaveSameParts (recorded_in (get_or l.snapshots k d) l.recorded) (recorded_in (get_or l.snapshots k d) l.owed)
