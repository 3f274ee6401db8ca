use Rattle.nv_restart.proofs.JudgedLogs.{all_shaped}
use Rattle.nv_restart.proofs.judged_laws.judged_logs_are_shaped.Goals as goal

pub returns : goal.returns
returns c = all_shaped
