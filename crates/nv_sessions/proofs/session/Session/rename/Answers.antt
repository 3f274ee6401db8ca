use Rattle.std.proofs.Common.{arith}
use Rattle.nv_calls.specs.declared.update.Update.TheVariants as update
use Rattle.nv_sessions.proofs.Refusals.{refused_change}
use Rattle.nv_sessions.proofs.session.Session.rename.Goals as goal

pub returns-clause-err : goal.returns-clause-err
returns-clause-err g c =
    refused_change (update.Rename c.args.from c.args.old c.args.to c.args.new) c.change.result c.change.ensures.err (omega (arith, c.change.ensures.reads))
