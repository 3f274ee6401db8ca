use Rattle.std.proofs.Common.{◌≡◌, ◌+◌, length}
use Rattle.nv_mount.proofs.GoingHome.{IsGoing}
use Rattle.nv_mount.proofs.homes.give_queue.Given as goal

abbrev pub invariant-loop-block : goal.invariant-loop-block
invariant-loop-block l = record {
  going : IsGoing l.geometry.numbers l.initial.blocks.blocks l.blocks.blocks l.initial.lists.items l.lists.items;
  size : l.blocks.size ≡ l.initial.blocks.size;
  room : l.blocks.room + length l.blocks.blocks ≡ l.initial.blocks.room + length l.initial.blocks.blocks;
}

abbrev pub decreases-loop-block : goal.decreases-loop-block
decreases-loop-block l = length l.blocks.blocks
