use Rattle.std.proofs.Common.{vec_len}
use Rattle.nv_sessions.proofs.locked_parts.dismantle_cells.Given as goal

abbrev pub decreases-loop-slot : goal.decreases-loop-slot
decreases-loop-slot g l = vec_len l.locks.locks
