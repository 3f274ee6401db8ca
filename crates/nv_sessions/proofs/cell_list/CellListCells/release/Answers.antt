use Rattle.std.proofs.Common.{◌≡◌, None, slice_index_or}
use Rattle.nv_cell.specs.Cell.{CellValue, number_in, without_part}
use Rattle.nv_sessions.proofs.ListCells.{frame_stays, list_only, list_step}
use Rattle.nv_sessions.proofs.cell_list.CellListCells.release.Goals as goal

pub returns : goal.returns
returns c =
    let items = c.args.self.now.cells.items in
    let was = c.index_mut.result.now in
    let now = c.release.new.self in
    let told = c.release.ensures in
    let step = list_step items c.args.k was now c.requires.within c.index_mut.ensures.value in
    record {
      cells = list_only items c.args.k was now c.requires.within c.index_mut.ensures.value;
      block = step (λ (old new : CellValue). c.release.result ≡ slice_index_or old.state.blocks (number_in old.state c.args.part) None)
          told.block;
      state = step (λ (old new : CellValue). new.state ≡ without_part old.state (number_in old.state c.args.part)) told.state;
      room = step (λ (old new : CellValue). new.room ≡ old.room) told.room;
      frame = search (frame_stays);
    }
