use Rattle.std.proofs.Common.{◌<◌, length, arith, ◌∙◌}
use Rattle.nv_calls.proofs.AppendAll.{can_next, goes_on}
use Rattle.nv_calls.proofs.whole.append_all.Given as given
use Rattle.nv_calls.proofs.whole.append_all.Goals as goal
use Rattle.nv_calls.proofs.whole.append_all.Goals.{After-append_on-arg-in-loop-plan-1}

turn : (g : given.Over) (c : goal.After-append_on-arg-in-loop-plan-1 g) → c.loop-plan._plan < length c.args.commit.now.plans
turn g c = omega (arith, c.loop-plan-test.true, c.planned-plan-end.ensures)

pub append_on-requires-clause-can : goal.append_on-requires-clause-can
append_on-requires-clause-can g c = can_next _ _ _ _ _ c.requires.placed (turn g c) c.loop-plan.invariant.way c.requires.can

pub loop-plan-preserved : goal.loop-plan-preserved
loop-plan-preserved g c =
    let lt = turn g (goal.at.loop-plan-preserved g c).After-append_on-arg-in-loop-plan-1 in
    let i = c.loop-plan.invariant in
    let e = c.append_on.ensures in
    record {
      way = goes_on _ _ _ _ _ c.requires.placed lt i.way _ _ e.cells e.commit e.can_publish;
      frame = e.frame ∙ i.frame;
    }
