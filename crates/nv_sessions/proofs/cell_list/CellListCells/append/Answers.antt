use Rattle.std.proofs.Common.{◌≡◌, ◌∷◌, List}
use Rattle.nv_entry.specs.Covered.{part_count}
use Rattle.nv_entry.specs.declared.item.Item.{Item}
use Rattle.nv_log.specs.Chain.{AppendsEntry}
use Rattle.nv_cell.specs.Append.{after_append, appended, blocks_for}
use Rattle.nv_cell.specs.Cell.{CellValue}
use Rattle.nv_cell.specs.Room.{IsReadyFor}
use Rattle.nv_sessions.proofs.ListCells.{frame_stays, list_only, list_step}
use Rattle.nv_sessions.proofs.cell_list.CellListCells.append.Goals as goal

pub returns : goal.returns
returns c =
    let items = c.args.self.now.cells.items in
    let was = c.index_mut.result.now in
    let now = c.append.new.self in
    let told = c.append.ensures in
    let step = list_step items c.args.k was now c.requires.within c.index_mut.ensures.value in
    record {
      cells = list_only items c.args.k was now c.requires.within c.index_mut.ensures.value;
      state = step (λ (old new : CellValue). new.state ≡ appended c.args.entry (blocks_for c.args.entry.item c.args.queue.now.blocks) old.state)
          told.state;
      room = step (λ (old new : CellValue). new.room ≡ after_append (part_count c.args.entry) old.room) told.room;
      pages = step (λ (old new : CellValue). AppendsEntry c.args.entry old.state.chain new.state.chain) told.pages;
      ready = step (λ (old new : CellValue). (later : List Item) → IsReadyFor (c.args.entry.item ∷ later) old → IsReadyFor later new)
          told.ready;
      queue = told.queue;
      frame = search (frame_stays);
    }
