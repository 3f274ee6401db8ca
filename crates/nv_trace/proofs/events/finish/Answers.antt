use Rattle.nv_trace.proofs.TracedEnds.{finished}
use Rattle.nv_trace.proofs.events.finish.Goals as goal

pub returns-clause-runs : goal.returns-clause-runs
returns-clause-runs c =
    finished c.args.trace c.args.number c.args.actor c.args.world.now c.go_on.new.world c.args.out.now.items c.go_on.new.out.items c.go_on.result
    c.calls_end.ensures c.go_on.ensures.goes
