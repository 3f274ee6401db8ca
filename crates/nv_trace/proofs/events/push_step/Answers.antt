use Rattle.std.proofs.Common.{◌∙◌, ◌++◌, ap, append-nil, sym}
use Rattle.nv_core.specs.NextSteps.{name_in}
use Rattle.nv_core.specs.Worlds.{reply_of}
use Rattle.nv_script.specs.declared.trace.Trace.{Trace}
use Rattle.nv_script.specs.Trace.{step_by}
use Rattle.nv_trace.specs.Traced.{lent_named}
use Rattle.nv_trace.proofs.AnswerLines.{on_ok}
use Rattle.nv_trace.proofs.events.push_step.Goals as goal

pub returns-in-Off : goal.returns-in-Off
returns-in-Off c m shows =
    let out = c.args.out.now.items in
    let next = c.args.next.now in
    let name = name_in next.name in
    sym (append-nil out)
    ∙ ap (λ (form : Trace). out ++ step_by form c.args.number c.args.actor c.args.call name (reply_of c.args.reply.now) next.waits_for
    next.commits (lent_named name) m)
    (sym c.in-Off.is)

pub returns-in-Text : goal.returns-in-Text
returns-in-Text c =
    let out = c.args.out.now.items in
    let next = c.args.next.now in
    let name = name_in next.name in
    on_ok c.push_step_text.result
    (λ pushed m shows. pushed
    ∙ ap (λ (form : Trace). out ++ step_by form c.args.number c.args.actor c.args.call name (reply_of c.args.reply.now) next.waits_for
    next.commits (lent_named name) m)
    (sym c.in-Text.is))
    c.push_step_text.ensures

pub returns-in-Json : goal.returns-in-Json
returns-in-Json c =
    let out = c.args.out.now.items in
    let next = c.args.next.now in
    let name = name_in next.name in
    on_ok c.push_step_object.result
    (λ pushed m shows. pushed m shows
    ∙ ap (λ (form : Trace). out ++ step_by form c.args.number c.args.actor c.args.call name (reply_of c.args.reply.now) next.waits_for
    next.commits (lent_named name) m)
    (sym c.in-Json.is))
    c.push_step_object.ensures
