use Rattle.std.proofs.Common.{◌≡◌, ℕ, ◌<◌, List, arith, length, slice_index_or, subst, sym}
use Rattle.std.specs.Global.{Vec}
use Rattle.std.proofs.lemmas.List.{length-map}
use Rattle.nv_cell.specs.Cell.{CellState, CellValue}
use Rattle.nv_entry.specs.declared.part.PartId.{PartId}
use Rattle.nv_audit.specs.Pending.{parts_at, pending_of}
use Rattle.nv_audit.specs.Records.{states_of}
use Rattle.nv_audit.specs.Whole.{CountsAgreeBy, CountsAgreeWith, IsCountedWith}
use Rattle.nv_audit.proofs.Differs.{told_alike}
use Rattle.nv_audit.proofs.whole.first_different.Goals as goal

pub returns-clause-ok : goal.returns-clause-ok
returns-clause-ok c =
    let states = states_of c.args.cells.now in
    let pending = c.deref.result.now in
    let snapshots = c.args.snapshots.now in
    let are : (ino : ℕ) → ino < length c.args.cells.now → parts_at pending ino ≡ pending_of ino c.args.deferred.now c.args.in_hands.now =
    subst (λ (l : List (Vec PartId)). (ino : ℕ) → ino < length c.args.cells.now
    → parts_at l ino ≡ pending_of ino c.args.deferred.now c.args.in_hands.now) (sym c.deref.ensures.value) c.in_ok-pending.ensures in
    let low : (ino : ℕ) → ino < length states → ino < length c.args.cells.now =
    λ ino lt. omega (arith, lt, length-map c.args.cells.now (λ (x : CellValue). x.state)) in
    let counted : CellState → List PartId → Type 0 = λ cell ps. IsCountedWith snapshots ps cell in
    told_alike (CountsAgreeWith snapshots pending states) (CountsAgreeBy snapshots c.args.deferred.now c.args.in_hands.now states)
    c.in_ok-first.first
    (λ all ino d lt. subst (counted (slice_index_or states ino d)) (are ino (low ino lt)) (all ino d lt))
    (λ all ino d lt. subst (counted (slice_index_or states ino d)) (sym (are ino (low ino lt))) (all ino d lt))
    c.in_ok-first.ensures.ok
