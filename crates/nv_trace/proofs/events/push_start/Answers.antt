use Rattle.nv_trace.proofs.StepsTold.{unstarted}
use Rattle.nv_trace.proofs.events.push_start.Goals as goal

pub returns-in_default : goal.returns-in_default
returns-in_default c =
    unstarted c.args.trace c.args.number c.args.actor c.args.call c.args.reply.now c.args.out.now.items c.in_default.not-Started
