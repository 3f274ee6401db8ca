use Rattle.nv_sessions.proofs.SeatCalls.{held_kept, held_same}
use Rattle.nv_sessions.proofs.session.Session.maintain.Goals as goal

pub returns-in-Snap-clause-same : goal.returns-in-Snap-clause-same
returns-in-Snap-clause-same g c = held_kept _ _ c.snap.result c.snap.ensures.same

pub returns-in-Drop-clause-same : goal.returns-in-Drop-clause-same
returns-in-Drop-clause-same g c = held_kept _ _ c.drop_snap.result c.drop_snap.ensures.same

pub returns-in-Show-clause-same : goal.returns-in-Show-clause-same
returns-in-Show-clause-same g c = held_same _ _ c.show.result c.show.ensures.same
