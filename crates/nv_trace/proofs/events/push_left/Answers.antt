use Rattle.std.proofs.Common.{◌∙◌, ◌++◌, List, ℕ, ap, append-nil, sym}
use Rattle.nv_core.specs.NextSteps.{name_in}
use Rattle.nv_trace.specs.Traced.{lent_named}
use Rattle.nv_trace.proofs.AnswerLines.{on_ok}
use Rattle.nv_trace.proofs.LeftParts.{nothing_left, some_left}
use Rattle.nv_trace.proofs.events.push_left.Goals as goal

pub returns-in-Started : goal.returns-in-Started
returns-in-Started c m shows =
    let out = c.args.out.now.items in
    sym (append-nil out)
    ∙ ap (λ (bytes : List ℕ). out ++ bytes)
    (sym (nothing_left c.args.actor (lent_named (name_in c.args.name)) m c.args.reply.now c.in-Started.is))

pub returns-in-Moved : goal.returns-in-Moved
returns-in-Moved c =
    on_ok c.push_made.result
    (λ pushed m shows. pushed m shows
    ∙ ap (λ (bytes : List ℕ). c.args.out.now.items ++ bytes)
    (sym (some_left c.args.actor (lent_named (name_in c.args.name)) m c.args.reply.now c.in-Moved.is)))
    c.push_made.ensures
