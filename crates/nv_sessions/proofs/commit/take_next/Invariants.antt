use Rattle.std.proofs.Common.{ℕ, ◌<◌}
use Rattle.nv_calls.specs.CanCommit.{TakesCommit, next_stamp}
use Rattle.nv_calls.specs.Cells.{value_at}
use Rattle.nv_calls.specs.Ready.{plan_at}
use Rattle.nv_sessions.proofs.commit.take_next.Given as goal

abbrev pub invariant-loop-j : goal.invariant-loop-j
invariant-loop-j g l =
    (i : ℕ) → i < l.j → TakesCommit (next_stamp l.fn.book.state) (value_at (g.L.Cells.cells l.fn.lent) (plan_at l.fn.ready.plans i).at)
