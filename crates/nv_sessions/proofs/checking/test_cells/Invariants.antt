use Rattle.std.proofs.Common.{ℕ, ◌<◌}
use Rattle.nv_calls.specs.Cells.{state_at}
use Rattle.nv_calls.specs.Prepared.{IsStill}
use Rattle.nv_sessions.proofs.checking.test_cells.Given as goal

abbrev pub invariant-loop-k : goal.invariant-loop-k
invariant-loop-k g l = (i : ℕ) → i < l.k → IsStill l.block (state_at (g.L.Cells.cells l.lent) i)
