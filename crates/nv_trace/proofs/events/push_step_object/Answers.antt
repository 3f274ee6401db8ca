use Rattle.std.proofs.Common.{◌∙◌, ◌++◌, List, ℕ, ap, append_assoc, sym}
use Rattle.std.specs.Prelude.{codes}
use Rattle.nv_core.specs.NextSteps.{name_in}
use Rattle.nv_core.specs.Worlds.{reply_of}
use Rattle.nv_script.specs.Trace.{left_members, replied_members, step_head}
use Rattle.nv_trace.specs.Traced.{lent_named}
use Rattle.nv_trace.proofs.AnswerLines.{on_pushed}
use Rattle.nv_trace.proofs.Pushes.{behind}
use Rattle.nv_trace.proofs.events.push_step_object.Goals as goal

pub returns : goal.returns
returns c =
    let out = c.args.out.now.items in
    let next = c.args.next.now in
    let name = name_in next.name in
    let answer = reply_of c.args.reply.now in
    let head = step_head c.args.number c.args.actor c.args.call name in
    let replied = replied_members answer next.waits_for next.commits in
    on_pushed c.extend_from_slice.result c.extend_from_slice.new.self.items (c.push_left.new.out.items ++ codes "}\n")
    c.push_left.new.out.items c.extend_from_slice.ensures.items
    (λ pushed m shows.
    let left = left_members answer c.args.actor (lent_named name) m in
    behind out (head ++ replied ++ left) (codes "}\n")
    (behind out (head ++ replied) left (behind out head replied c.in_ok-push_step_head.ensures c.in_ok-push_replied_members.ensures)
    (c.in_ok-push_left.ensures m shows)) pushed
    ∙ ap (λ (bytes : List ℕ). out ++ bytes) (sym (append_assoc (head ++ replied ++ left) (codes "}") (codes "\n"))))
