use Rattle.std.proofs.Common.{◌≡◌, ◌+◌, ◌<◌, ◌≤◌, ℕ, length}
use Rattle.nv_alloc.specs.Hand.{blocks_of}
use Rattle.nv_cell.specs.Cell.{CellState}
use Rattle.nv_machine.specs.World.{HandState, Running}
use Rattle.nv_sessions.specs.Holding.{Holds, wanting}
use Rattle.nv_steps.specs.Hands.{hand_of}
use Rattle.nv_steps.specs.Runs.{Known}
use Rattle.nv_sessions.proofs.fresh_pages.take_fresh.Given as goal

abbrev pub invariant-loop-asked : goal.invariant-loop-asked
invariant-loop-asked g l = record {
  turns : (h0 : HandState) (r0 r : Running) (ino : ℕ) (known : Known CellState)
      → Holds l.service.geometry.numbers l.number h0 r0 ino known (hand_of l.fn.hand) (wanting ino 0 l.wanted r)
      → Holds l.service.geometry.numbers l.number h0 r0 ino known (hand_of l.hand) (wanting ino l.asked l.left r);
  more : l.asked < l.service.geometry.numbers.cpus;
  pages : length l.hand.pages.blocks + l.left ≡ length l.fn.hand.pages.blocks + l.wanted;
  room : l.left ≤ l.hand.pages.room;
  size : l.hand.pages.size ≡ l.fn.hand.pages.size;
  rest : l.hand ≡ record l.fn.hand { pages = l.hand.pages };
  parts : l.mine.parts ≡ l.fn.mine.parts;
  amount : l.mine.amount ≡ length (blocks_of l.hand);
}
