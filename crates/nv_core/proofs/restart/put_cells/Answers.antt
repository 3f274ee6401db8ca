use Rattle.std.proofs.Common.{◌≡◌, ◌∙◌, ℕ, List, [], ◌∷◌, rules, subst, sym}
use Rattle.nv_alloc.specs.FreeList.{FreeBlocks}
use Rattle.nv_audit.specs.Image.{ImageValue}
use Rattle.nv_base.specs.Limits.{IsWithinLimits}
use Rattle.nv_cell.specs.Cell.{CellValue}
use Rattle.nv_cell.specs.declared.bare.BareCell.{BareCell}
use Rattle.nv_mount.specs.Build.{IsNext}
use Rattle.nv_mount.specs.View.{ViewValue, slot_in}
use Rattle.nv_core.specs.Restarts.{CanLeave, CanPutAll, HasLeft, all_stored, shown_cell}
use Rattle.nv_core.proofs.PutCells.{IsPutting, all_put, next_leaves, next_put, next_seen, putting_init, putting_more}
use Rattle.nv_core.proofs.restart.put_cells.Goals as goal
use Rattle.nv_core.proofs.restart.put_cells.Goals.{In-Some}

pub loop-cell-init : goal.loop-cell-init
loop-cell-init c image view same can =
    putting_init image view c.from_vec-cells.result.items c.args.plan.now c.args.lists.now.items can

-- the next cell is to be taken apart
module _ (c : In-Some) (image : ImageValue) (view : ViewValue) (same : c.args.geometry.now.numbers ≡ image.numbers)
    (can : CanPutAll image view c.from_vec-cells.result.items c.args.plan.now c.args.lists.now.items) where
  putting : IsPutting image view c.from_vec-cells.result.items (c.in-Some.cell ∷ c.pop_front.new.self.items) c.loop-cell.plan
      c.loop-cell.lists.items
  putting =
      subst (λ (cells : List CellValue). IsPutting image view c.from_vec-cells.result.items cells c.loop-cell.plan c.loop-cell.lists.items)
      c.in-Some.ensures.items (c.loop-cell.invariant image view same can)

  leaves : CanLeave image putting.done (all_stored c.pop_front.new.self.items) c.in-Some.cell.state c.loop-cell.lists.items
  leaves =
      next_leaves image view c.from_vec-cells.result.items c.args.plan.now c.args.lists.now.items can c.in-Some.cell
      c.pop_front.new.self.items c.loop-cell.plan c.loop-cell.lists.items putting

-- what is left of it makes the next cell
put_next : (c : In-Some) (image : ImageValue) (view : ViewValue) (same : c.args.geometry.now.numbers ≡ image.numbers)
    (can : CanPutAll image view c.from_vec-cells.result.items c.args.plan.now c.args.lists.now.items) (bare : BareCell) (new : List FreeBlocks)
    → ((ino : ℕ) (owed : List ℕ) → CanLeave image ino owed c.in-Some.cell.state c.loop-cell.lists.items
    → slot_in view ino ≡ shown_cell c.in-Some.cell → HasLeft image view ino owed bare new)
    → IsNext image view (putting c image view same can).done (all_stored c.pop_front.new.self.items) c.loop-cell.plan bare new
put_next c image view same can bare new left =
    let is = putting c image view same can in
    let all = c.from_vec-cells.result.items in
    let old = c.args.lists.now.items in
    let rest = c.pop_front.new.self.items in
    next_put image view all c.args.plan.now old can c.in-Some.cell rest c.loop-cell.plan c.loop-cell.lists.items is bare new
    (left is.done (all_stored rest) (leaves c image view same can)
    (next_seen image view all c.args.plan.now old can c.in-Some.cell rest c.loop-cell.plan c.loop-cell.lists.items is))

pub left_of-bare-requires : goal.left_of-bare-requires
left_of-bare-requires c =
    let here = (goal.at.left_of-bare-requires c).In-Some in
    let r = c.requires in
    let can = subst (λ (cells : List CellValue). CanPutAll r.0 r.1 cells c.args.plan.now c.args.lists.now.items)
    (sym c.from_vec-cells.ensures.items) r.3 in (
      r.0,
      (putting here r.0 r.1 r.2 can).done,
      all_stored c.pop_front.new.self.items,
      r.2,
      leaves here r.0 r.1 r.2 can,
    )

pub put-requires : goal.put-requires
put-requires c =
    let here = (goal.at.put-requires c).In-Some in
    let r = c.requires in
    let can = subst (λ (cells : List CellValue). CanPutAll r.0 r.1 cells c.args.plan.now c.args.lists.now.items)
    (sym c.from_vec-cells.ensures.items) r.3 in (
      r.0,
      r.1,
      (putting here r.0 r.1 r.2 can).done,
      all_stored c.pop_front.new.self.items,
      put_next here r.0 r.1 r.2 can c.left_of-bare.result c.left_of-bare.new.lists.items
          (λ ino owed leave seen. c.left_of-bare.ensures r.0 r.1 ino owed r.2 leave seen),
    )

pub loop-cell-preserved : goal.loop-cell-preserved
loop-cell-preserved c image view same can =
    let here = (goal.at.loop-cell-preserved c).In-Some in
    let is = putting here image view same can in
    let rest = c.pop_front.new.self.items in
    putting_more image view c.from_vec-cells.result.items c.args.plan.now c.args.lists.now.items can c.in-Some.cell rest c.loop-cell.plan
    c.loop-cell.lists.items is (subst IsWithinLimits same c.args.geometry.now.limits) c.put.new.self c.put.new.lists.items
    (c.put.ensures image view is.done (all_stored rest)
    (put_next here image view same can c.left_of-bare.result c.left_of-bare.new.lists.items
    (λ ino owed leave seen. c.left_of-bare.ensures image view ino owed same leave seen)))

pub returns : goal.returns
returns c image view same can =
    let all = c.from_vec-cells.result.items in
    let plan = c.args.plan.now in
    let old = c.args.lists.now.items in
    let ready = subst (λ (cells : List CellValue). CanPutAll image view cells plan old) (sym c.from_vec-cells.ensures.items) can in
    let none : c.loop-cell.cells.items ≡ [] = search rules in
    all_put image view all plan old ready c.loop-cell.plan c.loop-cell.lists.items
    (subst (λ (cells : List CellValue). IsPutting image view all cells c.loop-cell.plan c.loop-cell.lists.items) none
    (c.loop-cell.invariant image view same ready))
