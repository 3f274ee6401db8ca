use Rattle.std.proofs.Common.{length}
use Rattle.nv_parts.proofs.cells.dismantle_cells.Given as goal

abbrev pub decreases-loop-cell : goal.decreases-loop-cell
decreases-loop-cell l = length l.cells.items
