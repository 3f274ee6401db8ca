use Rattle.std.proofs.Common.{◌≡◌, ◌≤◌, length, map, reverse, take, vec_capacity, vec_len}
use Rattle.nv_mount.specs.Mount.{seen_cell}
use Rattle.nv_mount.proofs.mount.seen_of.Given as goal

abbrev pub invariant-loop-k : goal.invariant-loop-k
invariant-loop-k l = record {
  seen : l.slots.items ≡ map seen_cell (take l.k (reverse l.bare));
  len : vec_len l.slots ≡ l.k;
  room : length l.bare ≤ vec_capacity l.slots;
}
