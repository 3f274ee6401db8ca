use Rattle.std.proofs.Common.{◌≡◌, ◌+◌, ◌≤◌, map, sum_by, vec_len}
use Rattle.nv_cell.specs.Cell.{CellValue, KeepsAppendRoom, fresh_of, killed_by, log_of, published}
use Rattle.nv_cell.specs.Effects.{BindNone, items_of}
use Rattle.nv_cell.specs.Killed.{AreKilled}
use Rattle.nv_cell.specs.Weights.{page_runs_needed, weights_in}
use Rattle.nv_cell.specs.declared.killed.KilledPart.{KilledPart}
use Rattle.nv_sessions.proofs.ListCells.{frame_stays, list_only, list_step}
use Rattle.nv_sessions.proofs.cell_list.CellListCells.publish.Goals as goal

pub returns : goal.returns
returns c =
    let items = c.args.self.now.cells.items in
    let was = c.index_mut.result.now in
    let now = c.publish.new.self in
    let told = c.publish.ensures in
    let step = list_step items c.args.k was now c.requires.within c.index_mut.ensures.value in
    record {
      cells = list_only items c.args.k was now c.requires.within c.index_mut.ensures.value;
      state = step (λ (old new : CellValue). new.state ≡ published old.state) told.state;
      killed = step (λ (old new : CellValue). c.publish.result.items ≡ killed_by old.state) told.killed;
      few = step (λ (old new : CellValue). vec_len c.publish.result ≤ weights_in old.state.block (log_of old.state) (items_of (fresh_of old.state)))
          told.few;
      marked = step (λ (old new : CellValue). AreKilled (map (λ (k : KilledPart). k.part) c.publish.result.items) new.state) told.marked;
      room = step (λ (old new : CellValue). KeepsAppendRoom old.room new.room) told.room;
      runs = step (λ (old new : CellValue). old.room.runs ≤ new.room.runs + sum_by page_runs_needed (items_of (fresh_of old.state)))
          told.runs;
      name = step (λ (old new : CellValue). BindNone (items_of (fresh_of old.state)) → new.room.name ≡ old.room.name) told.name;
      frame = search (frame_stays);
    }
