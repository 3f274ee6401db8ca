use Rattle.std.proofs.Common.{◌<◌, length, arith, ◌∙◌}
use Rattle.nv_calls.specs.CanCommit.{CanBePublished}
use Rattle.nv_calls.specs.Cells.{value_at}
use Rattle.nv_calls.specs.Commit.{to_publish}
use Rattle.nv_calls.proofs.PublishAll.{can_next, goes_on, notes_next}
use Rattle.nv_calls.proofs.whole.publish_all.Given as given
use Rattle.nv_calls.proofs.whole.publish_all.Goals as goal
use Rattle.nv_calls.proofs.whole.publish_all.Goals.{After-publish_on-arg-in-loop-plan-1}

module _ (g : given.Over) (c : goal.After-publish_on-arg-in-loop-plan-1 g) where
  turn : c.loop-plan._plan < length c.args.commit.now.plans
  turn = omega (arith, c.loop-plan-test.true, c.planned-plan-end.ensures)

  can : CanBePublished (value_at (g.C.Cells.cells c.loop-plan.cells) (to_publish c.loop-plan.commit).at)
  can = can_next _ _ _ _ _ c.requires.placed turn c.loop-plan.invariant.way c.requires.can

pub publish_on-requires-clause-journal : goal.publish_on-requires-clause-journal
publish_on-requires-clause-journal g c =
    notes_next _ _ _ _ _ c.requires.placed (turn g c) c.loop-plan.invariant.way _ c.requires.journal c.requires.noted

pub publish_on-requires-clause-some : goal.publish_on-requires-clause-some
publish_on-requires-clause-some g c = (can g c).some

pub publish_on-requires-clause-version : goal.publish_on-requires-clause-version
publish_on-requires-clause-version g c = (can g c).version

pub publish_on-requires-clause-ready : goal.publish_on-requires-clause-ready
publish_on-requires-clause-ready g c = (can g c).ready

pub loop-plan-preserved : goal.loop-plan-preserved
loop-plan-preserved g c =
    let lt = turn g (goal.at.loop-plan-preserved g c).After-publish_on-arg-in-loop-plan-1 in
    let i = c.loop-plan.invariant in
    let e = c.publish_on.ensures in
    record {
      way = goes_on _ _ _ _ _ c.requires.placed lt i.way _ _ e.cells e.state e.commit e.few e.marked e.room;
      frame = e.frame ∙ i.frame;
    }
