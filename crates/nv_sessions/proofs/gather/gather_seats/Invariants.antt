use Rattle.std.proofs.Common.{◌≡◌, ◌+◌, length}
use Rattle.nv_sessions.proofs.gather.gather_seats.Given as goal

abbrev pub invariant-loop-seat : goal.invariant-loop-seat
invariant-loop-seat g l = record {
  parts : l.commits.parts ≡ l.initial.commits.parts + length l.yielded;
  amount : l.commits.amount ≡ l.initial.commits.amount;
  snap_parts : l.snapped.parts ≡ l.initial.snapped.parts + length l.yielded;
  snap_amount : l.snapped.amount ≡ l.initial.snapped.amount;
  block_parts : l.blocks.parts ≡ l.initial.blocks.parts + length l.yielded;
  block_amount : l.blocks.amount ≡ l.initial.blocks.amount;
}
