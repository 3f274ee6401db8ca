use Rattle.std.proofs.Common.{Option, subst}
use Rattle.nv_machine.specs.World.{actor_at}
use Rattle.nv_core.specs.NextSteps.{IsNext}
use Rattle.nv_core.specs.declared.next_step.NextStep.{NextStep}
use Rattle.nv_trace.proofs.StepsTold.{no_next, none_next, none_told, step_told}
use Rattle.nv_trace.proofs.events.step_of.Goals as goal

pub returns-clause-step : goal.returns-clause-step
returns-clause-step c = λ m shows.
    step_told c.args.trace c.args.number c.args.actor m c.go-reply.result c.go-reply.new.self (c.go-reply.ensures.step m shows)
    c.args.call c.in-Some.next c.args.out.now.items c.push_step.new.out.items (c.requires m shows)
    (subst (λ (o : Option NextStep). IsNext m c.args.actor (actor_at m c.args.actor).running o) c.in-Some.is
    (c.next_step.ensures m shows))
    c.in_ok-push_step.ensures

pub returns-in_default-clause-step : goal.returns-in_default-clause-step
returns-in_default-clause-step c = λ m shows.
    none_told c.args.trace c.args.number c.args.actor m c.go.result c.go.new.self (c.go.ensures.step m shows) c.args.out.now.items
    (no_next m c.args.actor (actor_at m c.args.actor).running
    (subst (λ (o : Option NextStep). IsNext m c.args.actor (actor_at m c.args.actor).running o)
    (none_next c.next_step.result c.in_default.not-Some) (c.next_step.ensures m shows)))
