use Rattle.std.proofs.Common.{◌∙◌, ◌++◌, List, ℕ, Option, ap}
use Rattle.std.specs.Prelude.{codes}
use Rattle.nv_core.specs.NextSteps.{name_in}
use Rattle.nv_script.specs.Trace.{labelled, object_head, step_place, step_word}
use Rattle.nv_trace.proofs.AnswerLines.{on_ok}
use Rattle.nv_trace.proofs.Pushes.{behind}
use Rattle.nv_trace.proofs.events.push_step_head.Goals as goal

pub returns : goal.returns
returns c =
    let out = c.args.out.now.items in
    let head = object_head c.args.number c.args.actor c.args.call in
    let word = step_word (name_in c.args.next.now.name) in
    let label = codes ",\"at\":" in
    on_ok c.push_optional.result
    (λ pushed. behind out (head ++ word ++ codes "\"") (labelled label (step_place (name_in c.args.next.now.name)))
    (behind out (head ++ word) (codes "\"") (behind out head word c.in_ok-push_object_head.ensures
    (c.in_ok-extend_from_slice.ensures.items ∙ ap (λ (w : List ℕ). c.push_object_head.new.out.items ++ w) c.step_word.ensures))
    c.in_ok-push.ensures.items)
    (pushed ∙ ap (λ (n : Option ℕ). c.push.new.self.items ++ labelled label n) c.step_place.ensures))
    c.push_optional.ensures
