use Rattle.std.proofs.Common.{◌≡◌, ◌++◌, None, drop, length, replicate}
use Rattle.nv_core.proofs.restart.free_owners.Given as goal

abbrev pub invariant-loop-ino : goal.invariant-loop-ino
invariant-loop-ino l = record {
  items : l.owners.items ≡ replicate l.ino None ++ drop l.ino l.initial.owners.items;
  len : length l.owners.items ≡ length l.initial.owners.items;
}
