use Rattle.nv_machine.proofs.CleanerRuns.{cleaner_ends}
use Rattle.nv_machine.proofs.cleaner_answers.cleaners_end_soon.Goals as goal

pub returns : goal.returns
returns c g start records events actor ino granted r manner is_start runs call =
    cleaner_ends g start records events actor granted r manner ino is_start runs call
