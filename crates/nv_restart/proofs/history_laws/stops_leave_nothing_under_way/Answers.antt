use Rattle.std.proofs.Common.{refl}
use Rattle.nv_restart.proofs.Happenings.{stop_starts}
use Rattle.nv_restart.proofs.history_laws.stops_leave_nothing_under_way.Goals as goal

pub returns-clause-idle : goal.returns-clause-idle
returns-clause-idle c = λ g start records events is_start may.
    (stop_starts g start records events is_start may).idle_all

pub returns-clause-deferred : goal.returns-clause-deferred
returns-clause-deferred c = λ w. refl

pub returns-clause-pins : goal.returns-clause-pins
returns-clause-pins c = λ g start records events is_start may.
    (stop_starts g start records events is_start may).unpinned
