use Rattle.std.proofs.Common.{◌∙◌, ◌++◌}
use Rattle.std.specs.Prelude.{codes}
use Rattle.nv_script.specs.Json.{kind_word}
use Rattle.nv_trace.proofs.AnswerLines.{on_ok}
use Rattle.nv_trace.proofs.Pushes.{labelled_piece, piece}
use Rattle.nv_trace.proofs.json_log.push_init.Goals as goal

pub returns : goal.returns
returns c =
    let out = c.args.out.now.items in
    let first = codes "\"item\":\"init\",\"kind\":\"" in
    let before = c.extend_from_slice.new.self.items in
    let named = c.extend_from_slice-2.new.self.items in
    let kind = piece out before named first c.kind_word.result.now (kind_word c.args.kind) c.in_ok-extend_from_slice.ensures.items
    c.in_ok-extend_from_slice-2.ensures.items c.kind_word.ensures in
    on_ok c.push_labelled.result
    (λ pushed. labelled_piece out named c.push_labelled.new.out.items (first ++ kind_word c.args.kind) (codes "\",\"mode\":") c.from.result
    c.args.mode kind pushed (c.from.ensures ∙ c.bits.ensures.value))
    c.push_labelled.ensures
