use Rattle.std.proofs.Common.{◌∷◌, ◌∙◌, Some, rules, sym, ap}
use Rattle.nv_script.proofs.Escapes.{text_of-unescaped, behind-None, behind-more, behind-end}
use Rattle.nv_script.proofs.Plain.{unescaped-whole}
use Rattle.nv_script.proofs.word.text.Goals as goal

pub returns-then-all_plain : goal.returns-then-all_plain
returns-then-all_plain c =
    let whole = text_of-unescaped c.args.word.now _ c.is_empty.ensures c.if-is_empty.false in
    let plain = unescaped-whole c.args.word.now (sym c.all_plain.ensures ∙ c.if-all_plain.true) in
    ap Some (c.from_vec.ensures ∙ c.in_ok-from_slice.ensures.items) ∙ sym (whole ∙ plain)

pub returns-in_default-taken : goal.returns-in_default-taken
returns-in_default-taken c =
    let whole = text_of-unescaped c.args.word.now _ c.is_empty.ensures c.if-is_empty.false in
    let none = behind-None c.loop-first.rest.now (c.in-Some.first.now ∷ c.in-Some.after.now) c.loop-first.bytes.items
    c.in-Some.ensures.cases.0 c.in_default-taken.ensures.stands in
    sym (whole ∙ sym c.loop-first.invariant ∙ none)

pub loop-first-preserved : goal.loop-first-preserved
loop-first-preserved c =
    let more = behind-more c.loop-first.rest.now (c.in-Some.first.now ∷ c.in-Some.after.now) c.in-Some-taken.left.now
    c.loop-first.bytes.items c.push.new.self.items c.in-Some-taken.byte c.in-Some.ensures.cases.0 c.in-Some-taken.ensures.stands
    c.in_ok-push.ensures.items in
    c.in_ok-rest-2.ensures.read ∙ sym more ∙ c.loop-first.invariant

pub returns : goal.returns
returns c =
    let whole = text_of-unescaped c.args.word.now _ c.is_empty.ensures c.if-is_empty.false in
    let read = behind-end c.loop-first.rest.now c.loop-first.bytes.items (search rules) in
    ap Some c.from_vec-2.ensures ∙ sym (whole ∙ sym c.loop-first.invariant ∙ read)
