use Rattle.nv_restart.proofs.Happenings.{stop_starts}
use Rattle.nv_restart.proofs.StopLists.{needed, scanned}
use Rattle.nv_restart.proofs.history_laws.stops_leave_what_a_scan_leaves.Goals as goal

pub returns-clause-scanned : goal.returns-clause-scanned
returns-clause-scanned c = λ g start records events cpu is_start may inside.
    scanned g start records events is_start may cpu inside

pub returns-clause-needed : goal.returns-clause-needed
returns-clause-needed c = λ g start records events cpu is_start may inside.
    needed g start records events is_start may cpu inside

pub returns-clause-pool : goal.returns-clause-pool
returns-clause-pool c = λ g start records events is_start may.
    (stop_starts g start records events is_start may).pool
