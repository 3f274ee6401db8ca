use Rattle.std.proofs.Common.{◌≡◌, ◌++◌, ℕ, List, ap, ap₂, refl, ◌∙◌}
use Rattle.std.specs.Global.{Vec}
use Rattle.nv_cell.specs.Cell.{CellState}
use Rattle.nv_entry.specs.declared.part.PartId.{PartId}
use Rattle.nv_epoch.specs.SnapList.{ids}
use Rattle.nv_audit.specs.Owed.{owed_records_by, owed_records_from}
use Rattle.nv_audit.specs.Pending.{of_inode, parts_at}
use Rattle.nv_audit.specs.Records.{states_of}
use Rattle.nv_audit.proofs.Pushing.{step_at}
use Rattle.nv_audit.proofs.States.{as_many, state_at}
use Rattle.nv_audit.proofs.owed.owed_records.Goals as goal

pub loop-place-preserved : goal.loop-place-preserved
loop-place-preserved c =
    let i = c.loop-place.place in
    let cell = c.index-cells-place.result in
    let hands = c.args.in_hands.now in
    let living = ids c.args.snaps.now in
    let named : c.pending_at-named.result.now ≡ of_inode i hands =
    c.pending_at-named.ensures ∙ ap (λ (l : List (Vec PartId)). parts_at l i) c.deref.ensures.value ∙ c.in_ok-pending.ensures i c.loop-place-test.true in
    step_at (owed_records_from living hands) (λ (n : ℕ) (x : CellState). owed_records_by living (of_inode n hands) n x) (λ n x xs. refl)
    (states_of c.args.cells.now) i cell.state (as_many c.args.cells.now i c.loop-place-test.true)
    (state_at c.args.cells.now i cell c.loop-place-test.true c.index-cells-place.is) c.loop-place.owed.items c.push_owed_by.new.owed.items _
    (c.in_ok-push_owed_by.ensures.ok
    ∙ ap₂ (λ (n : ℕ) (ps : List PartId). c.loop-place.owed.items ++ owed_records_by living ps n cell.state) c.new-ino.ensures named)
    c.loop-place.invariant
