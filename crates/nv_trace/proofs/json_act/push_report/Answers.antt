use Rattle.nv_script.specs.Json.{answer_lines}
use Rattle.std.proofs.Common.{◌≡◌, ◌∙◌, ◌++◌, List, ℕ, ap, rules}
use Rattle.nv_trace.proofs.AnswerLines.{on_ok}
use Rattle.nv_trace.proofs.JsonActs.{reported}
use Rattle.nv_trace.proofs.json_act.push_report.Goals as goal

pub returns : goal.returns
returns c =
    let same : c.as_slice.result.now ≡ c.report.new.out.items = search (rules) in
    reported c.push_answer_lines.result c.args.number c.args.world.now c.report.new.world c.args.command c.report.new.out.items
    c.push_answer_lines.new.out.items c.requires.report c.in_ok-report.ensures
    (on_ok c.push_answer_lines.result
    (λ wrote. wrote ∙ ap (λ (s : List ℕ). c.args.out.now.items ++ answer_lines c.args.number s) same
    ∙ ap (λ (t : List ℕ). t ++ answer_lines c.args.number c.report.new.out.items) c.requires.empty)
    c.push_answer_lines.ensures)
