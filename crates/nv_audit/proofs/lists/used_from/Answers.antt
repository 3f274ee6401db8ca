use Rattle.std.proofs.Common.{◌≡◌, ◌++◌, ℕ, List, ap, ap₂, refl, ◌∙◌}
use Rattle.std.specs.Global.{Vec}
use Rattle.nv_cell.specs.Cell.{CellState}
use Rattle.nv_entry.specs.Held.{Retention}
use Rattle.nv_entry.specs.declared.part.PartId.{PartId}
use Rattle.nv_audit.specs.Lists.{used_by, used_from}
use Rattle.nv_audit.specs.Pending.{parts_at, pending_of, retention_by}
use Rattle.nv_audit.specs.Records.{states_of}
use Rattle.nv_audit.proofs.Pushing.{step_at}
use Rattle.nv_audit.proofs.States.{as_many, state_at}
use Rattle.nv_audit.proofs.lists.used_from.Goals as goal

pub loop-place-preserved : goal.loop-place-preserved
loop-place-preserved c =
    let i = c.loop-place.place in
    let cell = c.index-cells-place.result in
    let snapshots = c.args.snapshots.now in
    let deferred = c.args.deferred.now in
    let hands = c.args.in_hands.now in
    let pending : c.pending_at.result.now ≡ pending_of i deferred hands =
    c.pending_at.ensures ∙ ap (λ (l : List (Vec PartId)). parts_at l i) c.deref.ensures.value ∙ c.in_ok-pending.ensures i c.loop-place-test.true in
    let same = ap₂ (λ (b : ℕ) (p : List PartId). let r : Retention = record { block = b; snapshots = snapshots; pending = p } in used_by r
    cell.state)
    c.block_bytes.ensures.value pending in
    step_at (used_from snapshots deferred hands) (λ (n : ℕ) (x : CellState). used_by (retention_by snapshots deferred hands n x) x)
    (λ n x xs. refl)
    (states_of c.args.cells.now) i cell.state (as_many c.args.cells.now i c.loop-place-test.true)
    (state_at c.args.cells.now i cell c.loop-place-test.true c.index-cells-place.is) c.loop-place.used.items c.push_used.new.used.items _
    (c.in_ok-push_used.ensures.ok ∙ ap (λ ys. c.loop-place.used.items ++ ys) same) c.loop-place.invariant
