use Rattle.std.proofs.Common.{◌≡◌, ◌∙◌, ◌++◌, List, ℕ, ap, rules}
use Rattle.nv_base.specs.Limits.{first_bad_field}
use Rattle.nv_script.specs.Json.{answer_lines}
use Rattle.nv_script.specs.JsonWorld.{world_line}
use Rattle.nv_trace.proofs.AnswerLines.{on_ok}
use Rattle.nv_trace.proofs.JsonActs.{told_none, told_some}
use Rattle.nv_trace.proofs.json_act.format_told.Goals as goal

pub returns-in-Some : goal.returns-in-Some
returns-in-Some c =
    let answer = c.format.new.out.items in
    let same : c.as_slice.result.now ≡ answer = search (rules) in
    on_ok c.push_answer_lines.result
    (λ wrote. told_some c.args.number (first_bad_field c.args.numbers.now) c.args.numbers.now answer c.push_answer_lines.new.out.items
    c.in-Some.made (rw c.in-Some.is at c.in_ok-format.ensures)
    (λ m shows. wrote ∙ ap (λ (s : List ℕ). c.push_world_line.new.out.items ++ answer_lines c.args.number s) same
    ∙ ap (λ (t : List ℕ). t ++ answer_lines c.args.number answer)
    (c.in_ok-push_world_line-in-Some.ensures m shows
    ∙ ap (λ (t : List ℕ). t ++ world_line c.args.number m) c.requires.empty)))
    c.push_answer_lines.ensures

pub returns : goal.returns
returns c =
    let answer = c.format.new.out.items in
    let same : c.as_slice-in-None.result.now ≡ answer = search (rules) in
    rw c.in-None.is (on_ok c.push_answer_lines-in-None.result
    (λ wrote. told_none c.args.number (first_bad_field c.args.numbers.now) c.args.numbers.now answer c.push_answer_lines-in-None.new.out.items
    (rw c.in-None.is at c.in_ok-format.ensures)
    (wrote ∙ ap (λ (s : List ℕ). c.args.out.now.items ++ answer_lines c.args.number s) same
    ∙ ap (λ (t : List ℕ). t ++ answer_lines c.args.number answer) c.requires.empty))
    c.push_answer_lines-in-None.ensures)
