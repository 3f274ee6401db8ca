use Rattle.std.proofs.Common.{◌≡◌}
use Rattle.std.specs.Prelude.{IsOk, OnErr, OnOk}
use Rattle.nv_cell.specs.Cell.{CellValue}
use Rattle.nv_cell.specs.Room.{HasNoLess, IsReadyToAppend}
use Rattle.nv_sessions.proofs.ListCells.{frame_stays, list_only, list_step}
use Rattle.nv_sessions.proofs.cell_list.CellListCells.ready.Goals as goal

pub returns : goal.returns
returns c =
    let items = c.args.self.now.cells.items in
    let was = c.index_mut.result.now in
    let now = c.ready.new.self in
    let told = c.ready.ensures in
    let step = list_step items c.args.k was now c.requires.within c.index_mut.ensures.value in
    record {
      cells = list_only items c.args.k was now c.requires.within c.index_mut.ensures.value;
      state = step (λ (old new : CellValue). new.state ≡ old.state) told.state;
      ok = step (λ (old new : CellValue). OnOk c.ready.result (IsReadyToAppend c.args.items.now new)) told.ok;
      enough = step (λ (old new : CellValue). IsReadyToAppend c.args.items.now old → IsOk c.ready.result) told.enough;
      room = step (λ (old new : CellValue). HasNoLess old.room new.room) told.room;
      name = step (λ (old new : CellValue). OnErr c.ready.result (new.room.name ≡ old.room.name)) told.name;
      err = told.err;
      frame = search (frame_stays);
    }
