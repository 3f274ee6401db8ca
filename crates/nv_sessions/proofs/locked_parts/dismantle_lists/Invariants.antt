use Rattle.std.proofs.Common.{length}
use Rattle.nv_sessions.proofs.locked_parts.dismantle_lists.Given as goal

abbrev pub decreases-loop-lock : goal.decreases-loop-lock
decreases-loop-lock g l = length l.locks.items
