use Rattle.std.proofs.Common.{◌≡◌, ℕ, ◌<◌, inl, inr, arith, length, sym, ◌∙◌, subst}
use Rattle.std.proofs.lemmas.Bool.{cases_lt, false≢true}
use Rattle.nv_cell.specs.Cell.{CellState}
use Rattle.nv_epoch.specs.SnapList.{ids}
use Rattle.nv_audit.specs.KeptParts.{AreRecordsOf, cell_in, list_at}
use Rattle.nv_audit.specs.Records.{states_of}
use Rattle.nv_audit.proofs.SlotRecords.{cell_here, list_here}
use Rattle.nv_audit.proofs.slot_records.are_records_of_each.Goals as goal

pub returns-then-not-are-clause-ok : goal.returns-then-not-are-clause-ok
returns-then-not-are-clause-ok c =
    let i = c.loop-place.place in
    let living = ids c.args.snaps.now in
    let cell = cell_here c.args.cells.now i c.index-cells-place.result c.loop-place-test.true c.index-cells-place.is in
    let within : i < length c.args.lists.now = omega (arith, c.loop-place-test.true, c.requires) in
    let list = list_here c.args.lists.now i c.index-lists-place.result within c.index-lists-place.is ∙ sym c.deref.ensures.value in (
      λ no. absurd (false≢true no),
      λ all. absurd (false≢true (sym c.if-not-are.true ∙ c.in_ok-are.ensures.ok.1
          (subst (λ (x : CellState). AreRecordsOf living x c.deref.result.now) cell
          (subst (AreRecordsOf living (cell_in (states_of c.args.cells.now) i)) list (all i c.loop-place-test.true))))),
    )

pub loop-place-preserved : goal.loop-place-preserved
loop-place-preserved c = λ ino below.
    let i = c.loop-place.place in
    let living = ids c.args.snaps.now in
    let cell = cell_here c.args.cells.now i c.index-cells-place.result c.loop-place-test.true c.index-cells-place.is in
    let within : i < length c.args.lists.now = omega (arith, c.loop-place-test.true, c.requires) in
    let list = list_here c.args.lists.now i c.index-lists-place.result within c.index-lists-place.is ∙ sym c.deref.ensures.value in
    let here : AreRecordsOf living (cell_in (states_of c.args.cells.now) i) (list_at c.args.lists.now i) =
    subst (AreRecordsOf living (cell_in (states_of c.args.cells.now) i)) (sym list)
    (subst (λ (x : CellState). AreRecordsOf living x c.deref.result.now) (sym cell) (c.in_ok-are.ensures.ok.0 c.if-not-are.false)) in
    elim (cases_lt ino i) [
      | inl less ↦ c.loop-place.invariant ino less
      | inr from ↦
          let same : i ≡ ino = omega (arith, from, below) in
          subst (λ (k : ℕ). AreRecordsOf living (cell_in (states_of c.args.cells.now) k) (list_at c.args.lists.now k)) same here
    ]
