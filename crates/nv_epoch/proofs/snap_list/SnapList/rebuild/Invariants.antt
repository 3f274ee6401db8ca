use Rattle.std.proofs.Common.{◌≡◌, ◌≤◌, map, take, vec_len, vec_capacity}
use Rattle.nv_epoch.specs.SnapList.{unpinned}
use Rattle.nv_epoch.proofs.snap_list.SnapList.rebuild.Given as goal

abbrev pub invariant-loop-number : goal.invariant-loop-number
invariant-loop-number l = record {
  items : l.living.items ≡ map unpinned (take l.number-index l.numbers);
  len : vec_len l.living ≡ l.number-index;
  capacity : l.snaps ≤ vec_capacity l.living;
}
