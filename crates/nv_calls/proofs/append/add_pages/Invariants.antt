use Rattle.std.proofs.Common.{◌≡◌, ◌+◌, ◌*◌, List, take}
use Rattle.nv_entry.specs.declared.item.Item.{Item}
use Rattle.nv_log.specs.Chain.{room_of}
use Rattle.nv_cell.specs.Room.{IsReadyFor}
use Rattle.nv_calls.specs.Cells.{state_at, value_at, with_value}
use Rattle.nv_calls.specs.Steps.{with_new_pages, without_front}
use Rattle.nv_calls.proofs.append.add_pages.Given as goal

abbrev pub invariant-loop-added : goal.invariant-loop-added
invariant-loop-added g l = record {
  cells : g.C.Cells.cells l.cells ≡ with_value (g.C.Cells.cells l.fn.cells) l.k
      (with_new_pages (take l._added l.fn.pages.blocks) (value_at (g.C.Cells.cells l.fn.cells) l.k));
  ready : (items : List Item) → IsReadyFor items (value_at (g.C.Cells.cells l.fn.cells) l.k)
      → IsReadyFor items (value_at (g.C.Cells.cells l.cells) l.k);
  room : let old = (state_at (g.C.Cells.cells l.fn.cells) l.k).chain in
      room_of (state_at (g.C.Cells.cells l.cells) l.k).chain ≡ room_of old + l._added * old.page;
  pages : l.pages ≡ without_front l._added l.fn.pages;
  frame : g.C.Cells.frame l.cells ≡ g.C.Cells.frame l.fn.cells;
}
