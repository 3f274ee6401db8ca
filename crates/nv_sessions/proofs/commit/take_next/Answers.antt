use Rattle.std.proofs.Common.{arith, refl}
use Rattle.nv_calls.specs.CanCommit.{TakesCommit, next_stamp}
use Rattle.nv_calls.specs.Cells.{value_at}
use Rattle.nv_calls.specs.Ready.{CellCommitValue, no_plan}
use Rattle.nv_calls.proofs.CellCommits.{all_by}
use Rattle.nv_sessions.proofs.commit.take_next.Goals as goal

pub returns : goal.returns
returns g c = (
  λ yes.
      all_by (λ (p : CellCommitValue). TakesCommit (next_stamp c.args.book.now.state) (value_at (g.L.Cells.cells c.args.lent.now) p.at))
      c.args.ready.now.plans no_plan (λ j lt. c.loop-j.invariant j (omega (arith, lt, c.loop-j-test.false, c.planned-j-end.ensures))),
  λ take. refl,
)
