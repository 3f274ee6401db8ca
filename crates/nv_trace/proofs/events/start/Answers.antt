use Rattle.std.proofs.Common.{◌∙◌, ◌++◌, ap}
use Rattle.nv_core.specs.Worlds.{reply_of}
use Rattle.nv_core.specs.declared.call_name.CallName.{CallName}
use Rattle.nv_script.specs.Trace.{start_lines}
use Rattle.nv_trace.proofs.events.start.Goals as goal

pub returns-clause-event : goal.returns-clause-event
returns-clause-event c =
    c.in_ok-push_start.ensures
    ∙ ap (λ (n : CallName). c.args.out.now.items
    ++ start_lines c.args.trace c.args.number c.args.actor n (reply_of c.start-reply.result)) c.of-name.ensures
