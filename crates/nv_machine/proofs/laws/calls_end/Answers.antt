use Rattle.nv_machine.proofs.SingleEvents.{events_bound, start_bound}
use Rattle.nv_machine.proofs.laws.calls_end.Goals as goal

pub returns-clause-starts : goal.returns-clause-starts
returns-clause-starts c = start_bound

pub returns-clause-falls : goal.returns-clause-falls
returns-clause-falls c = events_bound
