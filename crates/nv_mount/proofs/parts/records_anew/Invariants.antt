use Rattle.std.proofs.Common.{◌≡◌}
use Rattle.std.specs.List.{flat_map, range_with_len}
use Rattle.nv_mount.proofs.Anew.{records_in}
use Rattle.nv_mount.proofs.parts.records_anew.Given as goal

abbrev pub invariant-loop-ino : goal.invariant-loop-ino
invariant-loop-ino l = l.records.items ≡ flat_map (records_in l.view l.tails) (range_with_len 0 l.ino)
