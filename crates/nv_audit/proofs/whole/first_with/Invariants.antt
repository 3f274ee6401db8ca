use Rattle.std.proofs.Common.{ℕ, ◌<◌, slice_index_or}
use Rattle.nv_cell.specs.Cell.{CellState}
use Rattle.nv_audit.specs.Pending.{parts_at}
use Rattle.nv_audit.specs.Records.{states_of}
use Rattle.nv_audit.specs.Whole.{IsCountedWith}
use Rattle.nv_audit.proofs.whole.first_with.Given as goal

abbrev pub invariant-loop-place : goal.invariant-loop-place
invariant-loop-place l =
    (ino : ℕ) (d : CellState) → ino < l.place
    → IsCountedWith l.snapshots (parts_at l.pending ino) (slice_index_or (states_of l.cells) ino d)
