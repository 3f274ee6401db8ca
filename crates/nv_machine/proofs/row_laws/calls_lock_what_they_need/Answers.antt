use Rattle.nv_machine.proofs.NeededSlots.{needed_exactly}
use Rattle.nv_machine.proofs.row_laws.calls_lock_what_they_need.Goals as goal

pub returns : goal.returns
returns c g start records events actor ino r is_start is e = needed_exactly g start records events actor r is_start is ino e
