use Rattle.std.proofs.Common.{◌≡◌, ◌<◌, ◌+◌, ◌-◌, ℕ, length}
use Rattle.nv_alloc.specs.Hand.{blocks_of}
use Rattle.nv_machine.specs.World.{Running, empty_hand}
use Rattle.nv_steps.specs.Hands.{hand_of}
use Rattle.nv_steps.specs.LastSteps.{once_drained}
use Rattle.nv_sessions.specs.Underway.{HasCome}
use Rattle.nv_sessions.proofs.drain.drain_deferred.Given as goal

-- fewer were released than asked, nothing is in the hand, and the turns so far lead to the next pick
abbrev pub invariant-loop-round : goal.invariant-loop-round
invariant-loop-round g l = record {
  few : l.released < l.most;
  parts : l.mine.parts ≡ l.fn.mine.parts;
  amount : l.mine.amount ≡ length (blocks_of l.hand);
  empty : hand_of l.hand ≡ empty_hand;
  run : (actor left : ℕ) (r : Running) → l.released + 1 + left ≡ l.most
      → HasCome l.service.geometry.numbers actor empty_hand (once_drained 0 (l.most - 1) r) empty_hand (once_drained l.released left r);
}
