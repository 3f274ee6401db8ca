use Rattle.std.proofs.Common.{◌≡◌, ◌≤◌, ◌+◌, ◌-◌, ◌++◌, length, take, vec_capacity, vec_len}
use Rattle.nv_epoch.specs.SnapList.{numbers}
use Rattle.nv_core.proofs.stop.put_ids.Given as goal

abbrev pub invariant-loop-snapshot : goal.invariant-loop-snapshot
invariant-loop-snapshot l = record {
  items : l.snapshots.items ≡ l.initial.snapshots.items ++ numbers (take l.snapshot-index l.snapshot-items);
  room : vec_len l.snapshots + (length l.snapshot-items - l.snapshot-index) ≤ vec_capacity l.snapshots;
}
