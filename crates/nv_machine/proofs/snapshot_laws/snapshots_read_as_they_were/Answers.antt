use Rattle.nv_machine.proofs.CopiesAll.{all_copied, all_form_trees}
use Rattle.nv_machine.proofs.CopyTrees.{trees_are_copied}
use Rattle.nv_machine.proofs.ShowAll.{all_told}
use Rattle.nv_machine.proofs.SnapAnswers.{unpin_refused}
use Rattle.nv_machine.proofs.SnapRuns.{in_step}
use Rattle.nv_machine.proofs.snapshot_laws.snapshots_read_as_they_were.Goals as goal

pub returns-clause-copies : goal.returns-clause-copies
returns-clause-copies c g start records events is_start =
    all_copied g start records is_start events

pub returns-clause-epoch : goal.returns-clause-epoch
returns-clause-epoch c g start records events is_start = (in_step g start records events is_start).epoch

pub returns-clause-tree : goal.returns-clause-tree
returns-clause-tree c g start records events snapshot is_start lives =
    all_form_trees g start records is_start events snapshot lives

pub returns-clause-show : goal.returns-clause-show
returns-clause-show c g start records events actor snapshot granted r seen told is_start is next reply =
    all_told g start records is_start events actor snapshot granted r seen told is next reply

pub returns-clause-reads : goal.returns-clause-reads
returns-clause-reads c = trees_are_copied

pub returns-clause-refused : goal.returns-clause-refused
returns-clause-refused c w actor snapshot granted r seen fault is next ending =
    unpin_refused w actor granted r is snapshot seen fault next ending
