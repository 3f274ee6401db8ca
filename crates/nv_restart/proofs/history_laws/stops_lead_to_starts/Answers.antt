use Rattle.nv_restart.proofs.Happenings.{stop_may_stop, stop_starts}
use Rattle.nv_restart.proofs.history_laws.stops_lead_to_starts.Goals as goal

pub returns-clause-starts : goal.returns-clause-starts
returns-clause-starts c = stop_starts

pub returns-clause-may : goal.returns-clause-may
returns-clause-may c = stop_may_stop
