use Rattle.nv_core.proofs.WholeCalls.{refused_stays, started_runs}
use Rattle.nv_core.proofs.world.World.call.Goals as goal

pub returns-in-Started : goal.returns-in-Started
returns-in-Started c =
    started_runs c.args.self.now c.start.new.self c.finish.new.self c.args.actor c.args.call c.start.result _ c.in-Started.is
    c.start.ensures c.finish.ensures

pub returns-in_default : goal.returns-in_default
returns-in_default c =
    refused_stays c.args.self.now c.start.new.self c.args.actor c.args.call c.start.result c.told.result c.in_default.not-Started
    c.told.ensures c.start.ensures
