use Rattle.nv_sessions.proofs.SeatCalls.{held_kept}
use Rattle.nv_sessions.proofs.session.Session.call.Goals as goal

pub returns-in-Read-clause-same : goal.returns-in-Read-clause-same
returns-in-Read-clause-same g c = held_kept _ _ c.read.result c.read.ensures.same

pub returns-in-Stat-clause-same : goal.returns-in-Stat-clause-same
returns-in-Stat-clause-same g c = held_kept _ _ c.stat.result c.stat.ensures.same

pub returns-in-List-clause-same : goal.returns-in-List-clause-same
returns-in-List-clause-same g c = held_kept _ _ c.list.result c.list.ensures.same

pub returns-in-Lookup-clause-same : goal.returns-in-Lookup-clause-same
returns-in-Lookup-clause-same g c = held_kept _ _ c.lookup.result c.lookup.ensures.same
