use Rattle.std.proofs.Common.{◌≡◌, ◌+◌, ◌≤◌, drop, map}
use Rattle.nv_epoch.specs.SnapList.{ids}
use Rattle.nv_cell.specs.Killed.{AreKilled}
use Rattle.nv_calls.specs.Cells.{OnlyAt, ino_at, state_at, value_at}
use Rattle.nv_calls.specs.Retiring.{freed_by, part_in, retired, with_back, with_records}
use Rattle.nv_calls.proofs.retire.retire_parts.Given as goal

abbrev pub invariant-loop-part : goal.invariant-loop-part
invariant-loop-part g l =
    let cells = g.C.Cells.cells l.fn.cells in
    let now = g.C.Cells.cells l.cells in
    let living = ids l.fn.book.state.snaps in
    let ino = ino_at cells l.k in
    let rest = drop l.part-index l.killed in
    record {
      only : OnlyAt l.k cells now;
      number : ino_at now l.k ≡ ino;
      cell_room : (value_at now l.k).room ≡ (value_at cells l.k).room;
      block : (state_at now l.k).block ≡ (state_at cells l.k).block;
      state : retired living ino l.epoch rest (state_at now l.k) ≡ retired living ino l.epoch l.killed (state_at cells l.k);
      killed : AreKilled (map part_in rest) (state_at now l.k);
      book : l.book.state ≡ record l.fn.book.state { manifests = l.book.state.manifests };
      manifests : with_records living ino l.epoch rest l.book.state.manifests
          ≡ with_records living ino l.epoch l.killed l.fn.book.state.manifests;
      room : l.fn.book.room ≤ l.book.room + l.part-index;
      free : with_back (freed_by living ino l.epoch rest (state_at now l.k)) l.free
          ≡ with_back (freed_by living ino l.epoch l.killed (state_at cells l.k)) l.fn.free;
      size : l.free.size ≡ l.fn.free.size;
      places : l.fn.free.room ≤ l.free.room + l.part-index;
      frame : g.C.Cells.frame l.cells ≡ g.C.Cells.frame l.fn.cells;
    }
