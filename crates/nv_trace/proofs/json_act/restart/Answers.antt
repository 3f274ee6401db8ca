use Rattle.std.proofs.Common.{subst}
use Rattle.nv_core.specs.Worlds.{IsStep}
use Rattle.nv_core.specs.declared.event.Event.TheVariants as event
use Rattle.nv_core.specs.declared.event.Reply.{Reply}
use Rattle.nv_trace.proofs.JsonActs.{stop_refused, stopped_told}
use Rattle.nv_trace.proofs.json_act.restart.Goals as goal

pub returns-in_ok-push_world_line-in-Stopped : goal.returns-in_ok-push_world_line-in-Stopped
returns-in_ok-push_world_line-in-Stopped c =
    stopped_told c.push_reply_lines.result c.args.number c.args.world.now c.restart-reply.new.self c.args.out.now.items
    c.push_world_line.new.out.items c.push_reply_lines.new.out.items c.requires
    (λ m shows. subst (λ (r : Reply). IsStep m event.Stop r c.restart-reply.new.self) c.in-Stopped.is (c.restart-reply.ensures m shows))
    c.in_ok-push_world_line-in-Stopped.ensures c.push_reply_lines.ensures

pub returns-in_default : goal.returns-in_default
returns-in_default c =
    stop_refused c.push_reply_lines-in_default.result c.args.number c.args.world.now c.restart-reply.new.self c.restart-reply.result
    c.args.out.now.items c.push_reply_lines-in_default.new.out.items c.requires c.in_default.not-Stopped c.restart-reply.ensures
    c.push_reply_lines-in_default.ensures
