use Rattle.std.proofs.Common.{◌≡◌, filter}
use Rattle.std.specs.List.{range_with_len}
use Rattle.nv_mount.proofs.Anew.{free_in}
use Rattle.nv_mount.proofs.parts.pool_anew.Given as goal

abbrev pub invariant-loop-ino : goal.invariant-loop-ino
invariant-loop-ino l = l.numbers.items ≡ filter (free_in l.view l.tails l.ended) (range_with_len 0 l.ino)
