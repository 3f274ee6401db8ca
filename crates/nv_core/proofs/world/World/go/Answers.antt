use Rattle.nv_core.proofs.WholeCalls.{goes_once}
use Rattle.nv_core.proofs.world.World.go.Goals as goal

pub returns-clause-step : goal.returns-clause-step
returns-clause-step c m shows =
    goes_once c.args.self.now c.go_on.new.self c.args.actor c.go_on.result c.go_on.ensures.replied c.go_on.ensures.goes m shows
