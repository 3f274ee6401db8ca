use Rattle.std.proofs.Common.{◌≡◌, length}
use Rattle.nv_audit.specs.Image.{ImageValue}
use Rattle.nv_mount.specs.View.{ViewValue}
use Rattle.nv_core.specs.Restarts.{CanPutAll}
use Rattle.nv_core.proofs.PutCells.{IsPutting}
use Rattle.nv_core.proofs.restart.put_cells.Given as goal

abbrev pub invariant-loop-cell : goal.invariant-loop-cell
invariant-loop-cell l =
    (image : ImageValue) (view : ViewValue) → l.geometry.numbers ≡ image.numbers
    → CanPutAll image view l.initial.cells.items l.initial.plan l.initial.lists.items
    → IsPutting image view l.initial.cells.items l.cells.items l.plan l.lists.items

abbrev pub decreases-loop-cell : goal.decreases-loop-cell
decreases-loop-cell l = length l.cells.items
