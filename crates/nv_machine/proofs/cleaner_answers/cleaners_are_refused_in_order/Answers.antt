use Rattle.nv_machine.proofs.CleanerRuns.{cleaner_refused}
use Rattle.nv_machine.proofs.cleaner_answers.cleaners_are_refused_in_order.Goals as goal

pub returns : goal.returns
returns c g start records events actor ino granted r manner fault is_start runs call =
    cleaner_refused g start records events actor granted r manner ino is_start runs call fault
