use Rattle.nv_machine.proofs.FiledHeld.{recorded_for}
use Rattle.nv_machine.proofs.snapshot_laws.snapshots_hold_what_logs_tell.Goals as goal

pub returns : goal.returns
returns c = recorded_for
