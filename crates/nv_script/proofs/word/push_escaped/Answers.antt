use Rattle.std.proofs.Common.{◌∙◌, rules, sym}
use Rattle.nv_script.proofs.Plain.{escaped-whole}
use Rattle.nv_script.proofs.word.push_escaped.Goals as goal

pub returns-then-all_plain : goal.returns-then-all_plain
returns-then-all_plain c =
    let whole = escaped-whole c.args.bytes.now (sym c.all_plain.ensures ∙ c.if-all_plain.true) in
    rw whole (search rules)
