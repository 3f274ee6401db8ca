use Rattle.std.proofs.Common.{◌≡◌, ◌+◌, ◌<◌, [], ◌∷◌, ◌++◌, length, drop, arith, ap, ◌∙◌}
use Rattle.std.proofs.lemmas.Grind.{common_steps}
use Rattle.nv_calls.specs.Cells.{ino_at, no_cell}
use Rattle.nv_calls.specs.Slots.{items_for}
use Rattle.nv_calls.specs.Prepared.{cell_plans}
use Rattle.nv_calls.specs.Ready.{CellCommitValue}
use Rattle.nv_calls.proofs.CellCommits.{with_items, without_items}
use Rattle.nv_calls.proofs.prepare.cell_plans.Goals.{then-not-is_empty+in_ok-push, else-not-is_empty}
use Rattle.nv_calls.proofs.prepare.cell_plans.Goals as goal

pub loop-at-preserved : goal.loop-at-preserved
loop-at-preserved g c =
    let cells = g.C.Cells.cells c.args.cells.now in
    let at = c.loop-at.at in
    let plan = c.args.planned in
    let lt : at < length cells = omega (arith, c.loop-at-test.true, c.count-at-end.ensures) in
    let items : c.take-items.result.items ≡ items_for plan (ino_at cells at) =
    c.take-items.ensures.items ∙ ap (items_for c.loop-at.left) c.ino.ensures ∙ c.loop-at.invariant.left at (omega arith) lt in
    record {
      plans = elim c.if-not-is_empty.branch [
        | then-not-is_empty+in_ok-push w ↦
            let some : 0 < length c.take-items.result.items = grind (arith, common_steps) in
            ap (λ v. v.items ++ cell_plans plan (at + 1) (drop (at + 1) cells)) w.plans-is
            ∙ ap (λ ps. ps ++ cell_plans plan (at + 1) (drop (at + 1) cells)) w.in_ok-push.ensures.items
            ∙ ap (λ (p : CellCommitValue). (c.loop-at.plans.items ++ p ∷ []) ++ cell_plans plan (at + 1) (drop (at + 1) cells)) w.new.ensures
            ∙ with_items plan at cells c.loop-at.plans.items c.take-items.result.items lt items c.loop-at.invariant.plans some
        | else-not-is_empty w ↦
            let none : length c.take-items.result.items ≡ 0 = grind (arith, common_steps) in
            ap (λ v. v.items ++ cell_plans plan (at + 1) (drop (at + 1) cells)) w.plans-is
            ∙ without_items plan at cells c.loop-at.plans.items c.take-items.result.items lt items c.loop-at.invariant.plans none
      ];
      left = λ k le small.
          c.take-items.ensures.others (ino_at cells k) (λ e. omega
          (arith, e, c.ino.ensures, c.requires.rising at k no_cell (omega (arith, le)) small))
          ∙ c.loop-at.invariant.left k (omega (arith, le)) small;
    }
