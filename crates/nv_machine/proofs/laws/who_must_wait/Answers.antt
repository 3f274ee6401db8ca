use Rattle.nv_machine.proofs.MustWait.{waits_exactly}
use Rattle.nv_machine.proofs.laws.who_must_wait.Goals as goal

pub returns : goal.returns
returns c w actor granted r locks there is = waits_exactly w actor granted r there is locks
