use Rattle.std.proofs.Common.{◌∙◌, sym}
use Rattle.nv_machine.specs.World.{actor_at}
use Rattle.nv_trace.proofs.StepsTold.{no_call, none_told}
use Rattle.nv_trace.proofs.events.step.Goals as goal

pub step_of-requires : goal.step_of-requires
step_of-requires c = λ m shows. sym c.in-Some.is ∙ c.running_call.ensures m shows

pub returns-in-None-clause-step : goal.returns-in-None-clause-step
returns-in-None-clause-step c = λ m shows.
    none_told c.args.trace c.args.number c.args.actor m c.go.result c.go.new.self (c.go.ensures.step m shows) c.args.out.now.items
    (no_call (actor_at m c.args.actor).running (sym c.in-None.is ∙ c.running_call.ensures m shows))
