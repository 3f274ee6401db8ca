use Rattle.std.proofs.Common.{◌≡◌, ◌+◌}
use Rattle.nv_cell.specs.Cell.{CellValue, empty_cell, no_room}
use Rattle.nv_sessions.proofs.ListCells.{frame_stays, list_only, list_step}
use Rattle.nv_sessions.proofs.cell_list.CellListCells.erase.Goals as goal

pub returns : goal.returns
returns c =
    let items = c.args.self.now.cells.items in
    let was = c.index_mut.result.now in
    let now = c.erase.new.self in
    let told = c.erase.ensures in
    let step = list_step items c.args.k was now c.requires.within c.index_mut.ensures.value in
    record {
      cells = list_only items c.args.k was now c.requires.within c.index_mut.ensures.value;
      chain = step (λ (old new : CellValue). c.erase.result.state ≡ old.state.chain) told.chain;
      state = step (λ (old new : CellValue). new.state ≡ empty_cell old.state.block old.state.chain.page (old.state.generation + 1) old.state.version)
          told.state;
      room = step (λ (old new : CellValue). new.room ≡ record (no_room) { killed = old.room.killed }) told.room;
      frame = search (frame_stays);
    }
