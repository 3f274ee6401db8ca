use Rattle.std.proofs.Common.{◌≡◌, ◌≤◌, length, map, vec_capacity, vec_len}
use Rattle.std.specs.List.{range_with_len}
use Rattle.nv_mount.proofs.Seen.{over_in}
use Rattle.nv_mount.proofs.logs.ended.Given as goal

abbrev pub invariant-loop-ino : goal.invariant-loop-ino
invariant-loop-ino l = record {
  made : l.ended.items ≡ map (over_in l.view l.tails) (range_with_len 0 l.ino);
  len : vec_len l.ended ≡ l.ino;
  room : length l.view.slots ≤ vec_capacity l.ended;
}
