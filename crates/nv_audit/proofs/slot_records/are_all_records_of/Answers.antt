use Rattle.std.proofs.Common.{◌≡◌, ℕ, ◌<◌, List, length, ap, sym, ◌∙◌, subst}
use Rattle.std.specs.Prelude.{All}
use Rattle.std.specs.Global.{Vec}
use Rattle.std.proofs.lemmas.List.{length-map}
use Rattle.nv_book.specs.declared.record.Record.{Record}
use Rattle.nv_cell.specs.Cell.{CellValue}
use Rattle.nv_epoch.specs.SnapList.{Snapshots, ids}
use Rattle.nv_audit.specs.KeptParts.{AreBySlot, AreRecordsOf, cell_in, list_at}
use Rattle.nv_audit.specs.Records.{states_of}
use Rattle.nv_audit.proofs.SlotRecords.{all_by_slot}
use Rattle.nv_audit.proofs.slot_records.are_all_records_of.Goals as goal

pub returns-clause-ok : goal.returns-clause-ok
returns-clause-ok c =
    let cells = c.args.cells.now in
    let records = c.in_ok-records.records.items in
    let lists = c.in_ok-lists.lists.items in
    let living = ids c.snaps.result.now in
    let slots : All (λ (d : Record). d.ino < length cells) records =
    subst (All (λ (d : Record). d.ino < length cells)) c.deref.ensures.value (c.are_of_slots.ensures.0 c.if-not-are_of_slots.false) in
    let by : AreBySlot (length cells) records lists =
    subst (λ (l : List Record). AreBySlot (length cells) l lists) c.deref-2.ensures.value c.in_ok-lists.ensures in
    let both = all_by_slot c.args.book.now.state (states_of cells) living records lists (length cells)
    (ap (λ (s : Snapshots). ids s) c.snaps.ensures.snaps) c.in_ok-records.ensures (sym (length-map cells (λ (x : CellValue). x.state))) by slots in
    let each = λ (l : List (Vec Record)). (ino : ℕ) → ino < length cells → AreRecordsOf living (cell_in (states_of cells) ino) (list_at l ino) in (
      λ t. both.0 (subst each c.deref-3.ensures.value (c.in_ok-are.ensures.ok.0 t)),
      λ are. c.in_ok-are.ensures.ok.1 (subst each (sym c.deref-3.ensures.value) (both.1 are)),
    )
