use Rattle.std.proofs.Common.{◌∙◌, ℕ, List, ◌++◌, Option, ap}
use Rattle.std.specs.Prelude.{codes}
use Rattle.nv_core.specs.NextSteps.{name_in}
use Rattle.nv_core.specs.Worlds.{reply_of}
use Rattle.nv_script.specs.Trace.{event_head, labelled, reply_text, step_place, step_word}
use Rattle.nv_trace.proofs.StepsTold.{built}
use Rattle.nv_trace.proofs.events.push_step_text.Goals as goal

pub returns : goal.returns
returns c =
    let name = name_in c.args.next.now.name in
    built c.args.out.now.items (event_head c.args.number c.args.actor c.args.call) (step_word name)
    (labelled (codes " ") (step_place name)) (reply_text (reply_of c.args.reply.now) c.args.next.now.waits_for)
    (labelled (codes " commit ") c.args.next.now.commits) c.push_event_head.new.out.items c.extend_from_slice.new.self.items
    c.push_optional.new.out.items c.push.new.self.items c.push_replied.new.out.items c.push_optional-2.new.out.items
    c.push-2.new.self.items c.in_ok-push_event_head.ensures
    (c.in_ok-extend_from_slice.ensures.items ∙ ap (λ (w : List ℕ). c.push_event_head.new.out.items ++ w) c.step_word.ensures)
    (c.in_ok-push_optional.ensures
    ∙ ap (λ (n : Option ℕ). c.extend_from_slice.new.self.items ++ labelled (codes " ") n) c.step_place.ensures)
    c.in_ok-push.ensures.items c.in_ok-push_replied.ensures
    (c.in_ok-push_optional-2.ensures
    ∙ ap (λ (n : Option ℕ). c.push_replied.new.out.items ++ labelled (codes " commit ") n) c.number_of.ensures)
    c.in_ok-push-2.ensures.items
