use Rattle.std.proofs.Common.{◌≡◌, List, ap, arith, subst, ◌∙◌}
use Rattle.nv_entry.specs.declared.item.Item.{Item}
use Rattle.nv_cell.specs.Room.{IsReadyToAppend}
use Rattle.nv_calls.specs.Cells.{value_at}
use Rattle.nv_calls.specs.Ready.{CellCommitValue, no_plan, plan_at}
use Rattle.nv_calls.proofs.CellCommits.{all_by, at_place, more_again, ready_more}
use Rattle.nv_calls.proofs.prepare.ready_cells.Goals as goal

pub returns-in_err-ready-clause-cells : goal.returns-in_err-ready-clause-cells
returns-in_err-ready-clause-cells g c =
    more_again (g.C.Cells.cells c.args.cells.now) (g.C.Cells.cells c.loop-plan.cells) (g.C.Cells.cells c.ready.new.self) c.plan.inside.at
    c.loop-plan.invariant.more c.ready.ensures.cells c.ready.ensures.state c.ready.ensures.room

pub loop-plan-preserved : goal.loop-plan-preserved
loop-plan-preserved g c =
    let plans = c.args.plans.now in
    let index = c.loop-plan.plan-index in
    let now = g.C.Cells.cells c.loop-plan.cells in
    let new = g.C.Cells.cells c.ready.new.self in
    let item : c.plan-item.result ≡ plan_at plans index = at_place plans index c.plan-item.result no_plan c.loop-plan-test.true
    c.plan-item.is in
    let at : c.plan.inside.at ≡ (plan_at plans index).at = ap (λ (p : CellCommitValue). p.at) (c.plan.view_is ∙ item) in
    let items : c.deref.result.now ≡ (plan_at plans index).items = c.deref.ensures.value
    ∙ ap (λ (p : CellCommitValue). p.items) (c.plan.view_is ∙ item) in
    let here : IsReadyToAppend (plan_at plans index).items (value_at new c.plan.inside.at) =
    subst (λ (xs : List Item). IsReadyToAppend xs (value_at new c.plan.inside.at)) items c.in_ok-ready.ensures.ok in
    record {
      more = more_again (g.C.Cells.cells c.args.cells.now) now new c.plan.inside.at c.loop-plan.invariant.more c.ready.ensures.cells
          c.ready.ensures.state c.ready.ensures.room;
      ready = ready_more plans now new index c.plan.inside.at c.loop-plan-test.true at c.requires.placed.rising c.ready.ensures.cells
          c.loop-plan.invariant.ready here;
      frame = c.ready.ensures.frame ∙ c.loop-plan.invariant.frame;
    }

pub returns-clause-ready : goal.returns-clause-ready
returns-clause-ready g c =
    let now = g.C.Cells.cells c.loop-plan.cells in
    all_by (λ (p : CellCommitValue). IsReadyToAppend p.items (value_at now p.at)) c.args.plans.now no_plan
    (λ j lt. c.loop-plan.invariant.ready j (omega (arith, lt, c.loop-plan-test.false)))
