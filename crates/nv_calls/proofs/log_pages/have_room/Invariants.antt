use Rattle.std.proofs.Common.{ℕ, ◌<◌, ◌≤◌}
use Rattle.nv_log.specs.Chain.{room_of}
use Rattle.nv_calls.specs.Cells.{state_at}
use Rattle.nv_calls.proofs.log_pages.have_room.Given as goal

abbrev pub invariant-loop-k : goal.invariant-loop-k
invariant-loop-k g l = (j : ℕ) → j < l.k → l.entries ≤ room_of (state_at (g.C.Cells.cells l.cells) j).chain
