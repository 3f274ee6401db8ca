use Rattle.nv_restart.proofs.JudgedLogs.{all_sound}
use Rattle.nv_restart.proofs.judged_laws.judged_logs_are_sound.Goals as goal

pub returns : goal.returns
returns c = all_sound
