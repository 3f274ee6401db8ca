use Rattle.std.proofs.Common.{length}
use Rattle.nv_mount.proofs.GoingHome.{IsGoing}
use Rattle.nv_mount.proofs.homes.give_all.Given as goal

abbrev pub invariant-loop-block : goal.invariant-loop-block
invariant-loop-block l = IsGoing l.geometry.numbers l.initial.blocks.items l.blocks.items l.initial.lists.items l.lists.items

abbrev pub decreases-loop-block : goal.decreases-loop-block
decreases-loop-block l = length l.blocks.items
