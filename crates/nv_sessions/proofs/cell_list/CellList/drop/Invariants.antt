use Rattle.std.proofs.Common.{length}
use Rattle.nv_sessions.proofs.cell_list.CellList.drop.Given as goal

abbrev pub decreases-loop-taken : goal.decreases-loop-taken
decreases-loop-taken l = length l.cells.items
