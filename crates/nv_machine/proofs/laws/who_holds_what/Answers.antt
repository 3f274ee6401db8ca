use Rattle.nv_machine.proofs.LocksOverEvents.{events_locks, has_lent}
use Rattle.nv_machine.proofs.StartParts.{first_locks}
use Rattle.nv_machine.proofs.laws.who_holds_what.Goals as goal

pub returns-clause-start : goal.returns-clause-start
returns-clause-start c = first_locks

pub returns-clause-stays : goal.returns-clause-stays
returns-clause-stays c = events_locks

pub returns-clause-lent : goal.returns-clause-lent
returns-clause-lent c = has_lent
