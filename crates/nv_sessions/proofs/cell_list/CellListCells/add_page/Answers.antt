use Rattle.std.proofs.Common.{◌≡◌, ◌-◌, List}
use Rattle.nv_entry.specs.declared.item.Item.{Item}
use Rattle.nv_log.specs.Chain.{with_page}
use Rattle.nv_cell.specs.Cell.{CellValue}
use Rattle.nv_cell.specs.Room.{AddsPage, IsReadyFor}
use Rattle.nv_sessions.proofs.ListCells.{frame_stays, list_only, list_step}
use Rattle.nv_sessions.proofs.cell_list.CellListCells.add_page.Goals as goal

pub returns : goal.returns
returns c =
    let items = c.args.self.now.cells.items in
    let was = c.index_mut.result.now in
    let now = c.add_page.new.self in
    let told = c.add_page.ensures in
    let step = list_step items c.args.k was now c.requires.within c.index_mut.ensures.value in
    record {
      cells = list_only items c.args.k was now c.requires.within c.index_mut.ensures.value;
      state = step (λ (old new : CellValue). new.state ≡ record (old.state) { chain = with_page c.args.block old.state.chain }) told.state;
      room = step (λ (old new : CellValue). new.room ≡ record (old.room) { pages = old.room.pages - 1 }) told.room;
      pages = step (λ (old new : CellValue). AddsPage old.state.chain new.state.chain) told.pages;
      ready = step (λ (old new : CellValue). (items : List Item) → IsReadyFor items old → IsReadyFor items new) told.ready;
      frame = search (frame_stays);
    }
