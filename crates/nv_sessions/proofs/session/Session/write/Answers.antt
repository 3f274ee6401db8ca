use Rattle.nv_sessions.proofs.Refusals.{refused_write}
use Rattle.nv_sessions.proofs.session.Session.write.Goals as goal

pub returns-clause-err : goal.returns-clause-err
returns-clause-err g c = refused_write c.args.file c.args.offset c.args.count c.change.result c.change.ensures.err
