-- What is in a hand, in the machine's words.
use Rattle.std.specs.Prelude.{List, []}
use Rattle.nv_alloc.specs.declared.hand.Hand.{Hand}
use Rattle.nv_cell.specs.declared.killed.KilledPart.{KilledPart}
use Rattle.nv_machine.specs.World.{HandState}

-- a hand, and the parts that its commit killed and has not retired
abbrev pub hand_with : List (List KilledPart) → Hand → HandState
hand_with killed hand = record {
  blocks = hand.data.blocks;
  pages = hand.pages.blocks;
  chain = hand.chain;
  ino = hand.ino;
  killed = killed;
}

-- a hand, in the machine's words
abbrev pub hand_of : Hand → HandState
hand_of hand = hand_with [] hand
