use Rattle.std.proofs.Common.{◌≡◌, ◌++◌, subst}
use Rattle.nv_core.specs.CallNames.{call_name}
use Rattle.nv_core.specs.declared.event.Event.TheVariants as event
use Rattle.nv_core.specs.declared.event.Reply.{Reply}
use Rattle.nv_core.specs.Worlds.{IsStep, reply_of, told_by}
use Rattle.nv_restart.specs.Happenings.{Replied}
use Rattle.nv_script.specs.Trace.{start_lines}
use Rattle.nv_trace.proofs.ActingTraced.{always, start_replied}
use Rattle.nv_trace.proofs.TracedEnds.{called}
use Rattle.nv_trace.proofs.Tracing.{traced_refused}
use Rattle.nv_trace.proofs.events.call.Goals as goal

pub returns-in-Started-clause-calls : goal.returns-in-Started-clause-calls
returns-in-Started-clause-calls c =
    let began = c.in_ok-reply.ensures in
    called c.args.trace c.args.number c.args.actor c.args.call c.args.world.now c.start.new.world c.finish.new.world
    c.args.out.now.items c.start.new.out.items c.finish.new.out.items c.finish.result
    (λ m shows. subst (λ (r : Reply). IsStep m (event.Start c.args.actor c.args.call) r c.start.new.world) c.in-Started.is
    (began.step m shows))
    (subst (λ (r : Reply). c.start.new.out.items
    ≡ c.args.out.now.items ++ start_lines c.args.trace c.args.number c.args.actor (call_name c.args.call) (reply_of r)) c.in-Started.is
    began.event)
    c.finish.ensures.runs

pub returns-in_default-clause-calls : goal.returns-in_default-clause-calls
returns-in_default-clause-calls c =
    traced_refused c.args.trace c.args.number c.args.actor c.args.call c.args.world.now c.start.new.world c.start.new.world
    c.args.out.now.items c.start.new.out.items c.start.new.out.items c.in_ok-reply.reply c.in_default.not-Started
    c.in_ok-reply.ensures.step c.in_ok-reply.ensures.event

pub returns-in-Started-clause-replied : goal.returns-in-Started-clause-replied
returns-in-Started-clause-replied c =
    always (λ (told : Reply). told_by told ≡ Replied (reply_of told)) c.args.world.now c.finish.result c.finish.ensures.replied

pub returns-in_default-clause-replied : goal.returns-in_default-clause-replied
returns-in_default-clause-replied c =
    start_replied c.args.world.now c.start.new.world c.args.actor c.args.call c.in_ok-reply.reply c.in_ok-reply.ensures.step
