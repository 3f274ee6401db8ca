use Rattle.std.proofs.Common.{◌≡◌, subst, sym}
use Rattle.nv_cell.specs.Cell.{CellState}
use Rattle.nv_cell.specs.Marks.{bit, mark_at}
use Rattle.nv_machine.specs.Recorded.{is_marked_kept, is_record_of, recorded_in}
use Rattle.nv_machine.proofs.FiledLists.{count}
use Rattle.nv_restart.proofs.Records.{anew_filed, once, paired}
use Rattle.nv_restart.proofs.Slots.{cell_there}
use Rattle.nv_restart.specs.Mounted.{mounted}
use Rattle.nv_restart.proofs.mount_laws.records_anew_are_of_what_is_kept.Goals as goal

pub returns-clause-filed : goal.returns-clause-filed
returns-clause-filed c = anew_filed

pub returns-clause-once : goal.returns-clause-once
returns-clause-once c = λ image rising logs ino n lt.
    subst (λ (x : CellState). count (is_record_of x ino n) (recorded_in (mounted image))
    ≡ bit (is_marked_kept (mark_at x.marks n)))
    (sym (cell_there image ino lt)) (once image rising logs ino n lt)

pub returns-clause-paired : goal.returns-clause-paired
returns-clause-paired c = paired
