use Rattle.std.proofs.Common.{◌≡◌, ◌+◌, vec_len, vec_capacity}
use Rattle.nv_sessions.proofs.seats.free_seats.Given as goal

abbrev pub invariant-loop : goal.invariant-loop
invariant-loop g l = record {
  commits : l.commits.parts + l.counter ≡ l.initial.commits.parts;
  no_commit : l.commits.amount ≡ 0;
  snapped : l.snapped.parts + l.counter ≡ l.initial.snapped.parts;
  none_snapped : l.snapped.amount ≡ 0;
  blocks : l.blocks.parts + l.counter ≡ l.initial.blocks.parts;
  no_block : l.blocks.amount ≡ 0;
  count : vec_len l.into ≡ l.counter;
  room : vec_capacity l.into ≡ vec_capacity l.initial.into;
}
