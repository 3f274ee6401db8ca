use Rattle.nv_machine.proofs.CommitEffects.{point_is_sound}
use Rattle.nv_machine.proofs.LogsKeptRuns.{sound_stays}
use Rattle.nv_machine.proofs.plain_laws.settled_logs_stay_sound.Goals as goal

pub returns-clause-start : goal.returns-clause-start
returns-clause-start c g start records is_start = is_start.sound

pub returns-clause-stays : goal.returns-clause-stays
returns-clause-stays c = sound_stays

pub returns-clause-commits : goal.returns-clause-commits
returns-clause-commits c = point_is_sound
