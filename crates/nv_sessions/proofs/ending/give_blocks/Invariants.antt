use Rattle.std.proofs.Common.{◌≡◌, ◌≤◌, ℕ, length}
use Rattle.std.specs.Option.{ForSome}
use Rattle.nv_alloc.specs.Hand.{blocks_of}
use Rattle.nv_machine.specs.World.{HandState, Running}
use Rattle.nv_sessions.specs.Underway.{GivesBack, IsFirstHome, UnlocksNext}
use Rattle.nv_steps.specs.Hands.{hand_of}
use Rattle.nv_steps.specs.OnList.{HasNumber, home_left}
use Rattle.nv_sessions.proofs.ending.give_blocks.Given as goal

-- the share is that of the hand's blocks, what is left is told, no list before the loop's place is home of it, and the turns
-- so far have left it
abbrev pub invariant-loop-list : goal.invariant-loop-list
invariant-loop-list g l =
    let numbers = l.service.geometry.numbers in
    record {
      parts : l.mine.parts ≡ l.fn.mine.parts;
      amount : l.mine.amount ≡ length (blocks_of l.hand);
      refused : l.giving.refused ≡ l.fn.giving.refused;
      home : IsFirstHome numbers (blocks_of l.hand) (home_left l.left);
      place : ForSome (home_left l.left) (λ home. l._list ≤ home);
      number : HasNumber l.left l.hand.ino;
      run : (actor : ℕ) (h0 : HandState) (r0 r : Running) → UnlocksNext numbers actor h0 r0 (hand_of l.fn.hand) r
          → GivesBack numbers actor h0 r0 l.left (hand_of l.hand) r;
    }
