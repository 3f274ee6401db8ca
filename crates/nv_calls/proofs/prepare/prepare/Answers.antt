use Rattle.std.proofs.Common.{◌≡◌, ℕ, ◌<◌, ◌^◌, List, length, ap, arith, subst, sym, ◌∙◌}
use Rattle.std.proofs.lemmas.Grind.{common_steps}
use Rattle.nv_alloc.specs.Queue.{QueueValue}
use Rattle.std.specs.List.{AllByRecursion, sum_by}
use Rattle.nv_entry.specs.declared.item.Item.{Item}
use Rattle.nv_cell.specs.Effects.{BindOne}
use Rattle.nv_calls.specs.Cells.{state_at}
use Rattle.nv_calls.specs.Nodes.{block_in}
use Rattle.nv_calls.specs.Steps.{HaveBlocks}
use Rattle.nv_calls.specs.Prepared.{cell_plans, planned_by, plans_by}
use Rattle.nv_calls.specs.Ready.{ArePlaced, CellCommitValue}
use Rattle.nv_calls.specs.declared.plan.InodePlan.{InodePlan}
use Rattle.nv_calls.proofs.PlansByCell.{plans_all, plans_placed}
use Rattle.nv_calls.proofs.Prepares.{planned_blocks, planned_few, planned_one, still_at}
use Rattle.nv_calls.proofs.prepare.prepare.Goals as goal

pub ready_cells-requires-clause-placed : goal.ready_cells-requires-clause-placed
ready_cells-requires-clause-placed g c =
    let cells = g.C.Cells.cells c.args.cells.now in
    let is : c.deref.result.now ≡ plans_by cells c.args.hand.now c.args.update.now = c.deref.ensures.value ∙ c.in_ok-plans.ensures
    ∙ ap (λ (plan : List InodePlan). cell_plans plan 0 cells) c.in_ok-planned.ensures.ok in
    subst (ArePlaced cells) (sym is) (plans_placed (planned_by cells c.args.hand.now c.args.update.now) cells)

pub ready_cells-requires-clause-settled : goal.ready_cells-requires-clause-settled
ready_cells-requires-clause-settled g c =
    let cells = g.C.Cells.cells c.args.cells.now in
    let is : c.deref.result.now ≡ plans_by cells c.args.hand.now c.args.update.now = c.deref.ensures.value ∙ c.in_ok-plans.ensures
    ∙ ap (λ (plan : List InodePlan). cell_plans plan 0 cells) c.in_ok-planned.ensures.ok in
    let still : AllByRecursion (λ (p : CellCommitValue). (state_at cells p.at).chain.tail ≡ length (state_at cells p.at).chain.entries)
    (plans_by cells c.args.hand.now c.args.update.now) =
    plans_all (λ (n : ℕ) (items : List Item). (state_at cells n).chain.tail ≡ length (state_at cells n).chain.entries)
    (planned_by cells c.args.hand.now c.args.update.now) cells (λ k lt. still_at cells k c.requires.can.still lt) in
    subst (AllByRecursion (λ (p : CellCommitValue). (state_at cells p.at).chain.tail ≡ length (state_at cells p.at).chain.entries))
    (sym is) still

pub ready_cells-requires-clause-one : goal.ready_cells-requires-clause-one
ready_cells-requires-clause-one g c =
    let cells = g.C.Cells.cells c.args.cells.now in
    let is : c.deref.result.now ≡ plans_by cells c.args.hand.now c.args.update.now = c.deref.ensures.value ∙ c.in_ok-plans.ensures
    ∙ ap (λ (plan : List InodePlan). cell_plans plan 0 cells) c.in_ok-planned.ensures.ok in
    subst (AllByRecursion (λ (p : CellCommitValue). BindOne p.items)) (sym is)
    (planned_one cells c.args.hand.now c.args.update.now c.requires.can
    (omega (arith, c.blocks_have_bytes.ensures)) c.in_ok-planned.ensures.runs.0
    c.in_ok-planned.ensures.runs.1)

pub need_of-requires : goal.need_of-requires
need_of-requires g c =
    let cells = g.C.Cells.cells c.args.cells.now in
    let is : c.deref-2.result.now ≡ plans_by cells c.args.hand.now c.args.update.now = c.deref-2.ensures.value ∙ c.in_ok-plans.ensures
    ∙ ap (λ (plan : List InodePlan). cell_plans plan 0 cells) c.in_ok-planned.ensures.ok in
    let within : AllByRecursion (λ (p : CellCommitValue). p.at < length (g.C.Cells.cells c.ready_cells.new.cells))
    (plans_by cells c.args.hand.now c.args.update.now) =
    plans_all (λ (n : ℕ) (items : List Item). n < length (g.C.Cells.cells c.ready_cells.new.cells))
    (planned_by cells c.args.hand.now c.args.update.now) cells (λ k lt. omega (arith, lt, c.ready_cells.ensures.cells.count)) in
    subst (AllByRecursion (λ (p : CellCommitValue). p.at < length (g.C.Cells.cells c.ready_cells.new.cells))) (sym is) within

pub returns-clause-blocks : goal.returns-clause-blocks
returns-clause-blocks g c =
    let cells = g.C.Cells.cells c.args.cells.now in
    let hand = c.args.hand.now in
    let is : c.in_ok-plans.plans.items ≡ plans_by cells hand c.args.update.now =
    c.in_ok-plans.ensures ∙ ap (λ (plan : List InodePlan). cell_plans plan 0 cells) c.in_ok-planned.ensures.ok in
    let queue : c.reserve.new.self ≡ record hand.«data» { room = c.reserve.new.self.room } = grind (arith, common_steps) in
    subst (AllByRecursion (λ (p : CellCommitValue). HaveBlocks p.items (block_in cells) c.reserve.new.self)) (sym is)
    (planned_blocks cells hand c.args.update.now c.requires.can
    (omega (arith, c.blocks_have_bytes.ensures)) c.in_ok-planned.ensures.runs.0
    c.in_ok-planned.ensures.runs.1 c.reserve.new.self (ap (λ (q : QueueValue). q.size) queue) (ap (λ (q : QueueValue). q.blocks) queue))

pub returns-clause-few : goal.returns-clause-few
returns-clause-few g c =
    let cells = g.C.Cells.cells c.args.cells.now in
    let is : c.in_ok-plans.plans.items ≡ plans_by cells c.args.hand.now c.args.update.now =
    c.in_ok-plans.ensures ∙ ap (λ (plan : List InodePlan). cell_plans plan 0 cells) c.in_ok-planned.ensures.ok in
    subst (λ (ps : List CellCommitValue). sum_by (λ (p : CellCommitValue). length p.items) ps < 2 ^ 32) (sym is)
    (planned_few cells c.args.hand.now c.args.update.now c.requires.can
    (omega (arith, c.blocks_have_bytes.ensures)) c.in_ok-planned.ensures.runs.0
    c.in_ok-planned.ensures.runs.1)
