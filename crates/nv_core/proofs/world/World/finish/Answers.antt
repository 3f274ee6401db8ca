use Rattle.nv_core.proofs.WholeCalls.{finished, ran}
use Rattle.nv_core.proofs.world.World.finish.Goals as goal

pub returns : goal.returns
returns c =
    finished c.args.self.now c.go_on.new.self c.args.actor c.go_on.result c.told.result c.told.ensures
    (ran c.args.self.now c.go_on.new.self c.args.actor c.go_on.result c.calls_end.ensures c.go_on.ensures.goes)
