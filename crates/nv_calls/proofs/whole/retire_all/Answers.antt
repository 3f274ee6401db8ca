use Rattle.std.proofs.Common.{◌<◌, length, arith, ◌∙◌}
use Rattle.nv_calls.proofs.RetireAll.{can_next, dead_next, free_next, goes_on, room_next}
use Rattle.nv_calls.proofs.whole.retire_all.Given as given
use Rattle.nv_calls.proofs.whole.retire_all.Goals as goal
use Rattle.nv_calls.proofs.whole.retire_all.Goals.{After-retire_on-arg-in-loop-plan-2-1}

turn : (g : given.Over) (c : goal.After-retire_on-arg-in-loop-plan-2-1 g) → c.loop-plan._plan < length c.args.commit.now.plans
turn g c = omega (arith, c.loop-plan-test.true, c.planned-plan-end.ensures)

pub retire_on-requires-clause-dead : goal.retire_on-requires-clause-dead
retire_on-requires-clause-dead g c = dead_next _ _ _ _ _ _ _ c.requires.placed (turn g c) c.loop-plan.invariant.way c.requires.dead

pub retire_on-requires-clause-room : goal.retire_on-requires-clause-room
retire_on-requires-clause-room g c = room_next _ _ _ _ _ _ _ c.requires.placed (turn g c) c.loop-plan.invariant.way c.requires.can

pub retire_on-requires-clause-free : goal.retire_on-requires-clause-free
retire_on-requires-clause-free g c = free_next _ _ _ _ _ _ _ c.requires.placed (turn g c) c.loop-plan.invariant.way c.requires.can

pub retire_on-requires-clause-can : goal.retire_on-requires-clause-can
retire_on-requires-clause-can g c = can_next _ _ _ _ _ _ _ c.requires.placed (turn g c) c.loop-plan.invariant.way c.requires.can

pub loop-plan-preserved : goal.loop-plan-preserved
loop-plan-preserved g c =
    let lt = turn g (goal.at.loop-plan-preserved g c).After-retire_on-arg-in-loop-plan-2-1 in
    let i = c.loop-plan.invariant in
    let e = c.retire_on.ensures in
    record {
      way = goes_on _ _ _ _ _ _ _ c.requires.placed lt i.way _ _ _ e.cells e.state e.book e.room e.commit e.cell_room;
      frame = e.frame ∙ i.frame;
    }
