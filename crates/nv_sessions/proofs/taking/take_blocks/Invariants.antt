use Rattle.std.proofs.Common.{◌≡◌, ◌+◌, ◌-◌, ◌<◌, ◌≤◌, length}
use Rattle.nv_sessions.specs.Changing.{HasTaken}
use Rattle.nv_sessions.proofs.taking.take_blocks.Given as goal

abbrev pub invariant-loop : goal.invariant-loop
invariant-loop g l = record {
  few : l.left ≤ l.wanted;
  taken : HasTaken (l.wanted - l.left) l.fn.queue l.queue;
  parts : l.mine.parts ≡ l.fn.mine.parts;
  amount : l.mine.amount + length l.fn.queue.blocks ≡ l.fn.mine.amount + length l.queue.blocks;
  first : l.asking.first < l.service.geometry.numbers.cpus;
  asked : l.asking.asked ≡ l.counter;
  turn : l.asking.turn ≡ l.fn.asking.turn;
}
