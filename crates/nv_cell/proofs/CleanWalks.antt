-- The flags of the marks are those of what keeps the parts.
use Rattle.std.proofs.Common.{◌≡◌, ◌∙◌, List, [], ◌∷◌, Bool, ap, arith, drop, length, length-drop, map, refl}
use Rattle.std.specs.List.{list_any}
use Rattle.nv_cell.specs.Cell.{CellState, IsCell, log_of}
use Rattle.nv_cell.specs.Marks.{is_there}
use Rattle.nv_cell.specs.Readers.{marks_by_entry, there_flags}
use Rattle.nv_cell.specs.Retained.{AreMarksOf}
use Rattle.nv_cell.specs.declared.mark.Mark.{Mark}
use Rattle.nv_cell.proofs.Droppable.{first_alike, later_alike}
use Rattle.nv_cell.proofs.Scanned.{AreAlike}
use Rattle.nv_entry.specs.ByFlags.{kept_flags}
use Rattle.nv_entry.specs.Counts.{is_entry_kept}
use Rattle.nv_entry.specs.Covered.{part_count, part_total}
use Rattle.nv_entry.specs.Held.{Retention, keeps}
use Rattle.nv_entry.specs.declared.item.Entry.{Entry}

flags_on : (r : Retention) (log : List Entry) (marks : List Mark) → length marks ≡ part_total log
    → AreAlike is_there (keeps r) r.block log marks
    → map (list_any is_there) (marks_by_entry log marks) ≡ kept_flags r log
flags_on r [] marks len alike = refl
flags_on r (e ∷ later) marks len alike =
    let c = part_count e in
    ap (λ (b : Bool). b ∷ map (list_any is_there) (marks_by_entry later (drop c marks)))
    (first_alike r e later marks len alike)
    ∙ ap (λ (l : List Bool). is_entry_kept r e later ∷ l)
    (flags_on r later (drop c marks) (omega (arith, len, length-drop c marks))
    (later_alike r e later marks alike))

pub flags_are : (r : Retention) (cell : CellState) → IsCell cell → AreMarksOf r cell
    → there_flags cell ≡ kept_flags r (log_of cell)
flags_are r cell is are = flags_on r (log_of cell) cell.marks is.marks.len are.there
