use Rattle.std.proofs.Common.{length}
use Rattle.nv_mount.proofs.homes.dismantle_lists.Given as goal

abbrev pub decreases-loop-list : goal.decreases-loop-list
decreases-loop-list l = length l.lists.items
