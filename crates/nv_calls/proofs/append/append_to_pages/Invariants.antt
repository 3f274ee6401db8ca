use Rattle.std.proofs.Common.{◌≡◌, ◌+◌, length}
use Rattle.nv_calls.specs.Cells.{OnlyAt, value_at}
use Rattle.nv_calls.specs.Steps.{numbers_in, stamped_entries, with_entries, without_front}
use Rattle.nv_calls.proofs.Appends.{IsUnderway}
use Rattle.nv_calls.proofs.append.append_to_pages.Given as goal

abbrev pub invariant-loop-done : goal.invariant-loop-done
invariant-loop-done g l =
    let now = value_at (g.C.Cells.cells l.cells) l.k in
    let old = value_at (g.C.Cells.cells l.fn.cells) l.k in
    record {
      only : OnlyAt l.k (g.C.Cells.cells l.fn.cells) (g.C.Cells.cells l.cells);
      rest : with_entries (stamped_entries l.stamp l.next l.left.items) l.blocks.blocks now
          ≡ with_entries (stamped_entries l.stamp l.place l.fn.left.items) l.fn.blocks.blocks old;
      underway : IsUnderway l.stamp l.next l.left.items l.blocks now;
      count : l._done + length l.left.items ≡ length l.fn.left.items;
      few : l.next + length l.left.items ≡ l.place + length l.fn.left.items;
      queue : without_front (length (numbers_in l.left.items)) l.blocks ≡ without_front (length (numbers_in l.fn.left.items)) l.fn.blocks;
      frame : g.C.Cells.frame l.cells ≡ g.C.Cells.frame l.fn.cells;
    }
