use Rattle.nv_machine.proofs.CleanerRuns.{cleaner_answered}
use Rattle.nv_machine.proofs.cleaner_answers.cleaners_tell_what_went.Goals as goal

pub returns : goal.returns
returns c g start records events actor ino granted r manner told is_start runs call =
    cleaner_answered g start records events actor granted r manner ino is_start runs call told
