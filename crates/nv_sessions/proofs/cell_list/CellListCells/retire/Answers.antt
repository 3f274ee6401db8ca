use Rattle.std.proofs.Common.{◌≡◌}
use Rattle.nv_cell.specs.Cell.{CellValue, number_in, with_mark}
use Rattle.nv_cell.specs.declared.mark.Mark.TheVariants as mark
use Rattle.nv_sessions.proofs.ListCells.{frame_stays, list_only, list_step}
use Rattle.nv_sessions.proofs.cell_list.CellListCells.retire.Goals as goal

pub returns : goal.returns
returns c =
    let items = c.args.self.now.cells.items in
    let was = c.index_mut.result.now in
    let now = c.retire.new.self in
    let told = c.retire.ensures in
    let step = list_step items c.args.k was now c.requires.within c.index_mut.ensures.value in
    record {
      cells = list_only items c.args.k was now c.requires.within c.index_mut.ensures.value;
      state = step (λ (old new : CellValue). new.state ≡ with_mark old.state (number_in old.state c.args.part) mark.Kept) told.state;
      room = step (λ (old new : CellValue). new.room ≡ old.room) told.room;
      frame = search (frame_stays);
    }
