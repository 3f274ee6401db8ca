use Rattle.std.proofs.Common.{vec_len}
use Rattle.nv_sessions.proofs.held.PlaceGuards.+put_all.Given as goal

-- the cells that are out
abbrev pub decreases-put_all : goal.decreases-put_all
decreases-put_all g l = vec_len l.list.now.cells
