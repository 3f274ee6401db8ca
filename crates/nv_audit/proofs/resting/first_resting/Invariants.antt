use Rattle.std.proofs.Common.{ℕ, ◌<◌, slice_index_or}
use Rattle.nv_book.specs.Book.{BookState}
use Rattle.nv_cell.specs.Cell.{CellState}
use Rattle.nv_audit.specs.Records.{states_of}
use Rattle.nv_audit.specs.Resting.{IsBookWith, IsInodeAtRest}
use Rattle.nv_audit.proofs.resting.first_resting.Given as goal

abbrev pub invariant-loop-place : goal.invariant-loop-place
invariant-loop-place l =
    (book : BookState) → IsBookWith l.snapshots l.pending book → (ino : ℕ) (d : CellState) → ino < l.place
    → IsInodeAtRest book ino (slice_index_or (states_of l.cells) ino d)
