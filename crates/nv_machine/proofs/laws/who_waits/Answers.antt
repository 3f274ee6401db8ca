use Rattle.nv_machine.proofs.AloneNeverWaits.{never_waits}
use Rattle.nv_machine.proofs.LocksOverEvents.{waits}
use Rattle.nv_machine.proofs.laws.who_waits.Goals as goal

pub returns-clause-why : goal.returns-clause-why
returns-clause-why c = waits

pub returns-clause-alone : goal.returns-clause-alone
returns-clause-alone c w actor granted locks idle = never_waits w actor locks idle granted
