use Rattle.std.proofs.Common.{◌≡◌, ◌∙◌, [], Option, None, Ok, Some, ap, is_some, rules, subst, sym}
use Rattle.std.proofs.lemmas.Result.{err_from_is_err_and}
use Rattle.nv_core.specs.Worlds.{WorldState}
use Rattle.nv_script.specs.declared.trace.Trace.TheVariants as trace
use Rattle.nv_script.specs.Grammar.{command_of, format_of, texts}
use Rattle.nv_script.specs.Play.{WordsFail}
use Rattle.nv_script.specs.Words.{words_of}
use Rattle.nv_script.proofs.Played.{headed, makes, played, starved, unheaded, unread}
use Rattle.nv_trace.proofs.json_act.play_line.Goals as goal

pub returns-in_err-format_told-in-None-clause-line : goal.returns-in_err-format_told-in-None-clause-line
returns-in_err-format_told-in-None-clause-line g c =
    let p = err_from_is_err_and c.from_residual-in_err-format_told-in-None.result c.from_residual-in_err-format_told-in-None.ensures.1 in
    rw (p.1, p.2) (starved trace.Json c.args.telling.number c.args.telling.head.now _ c.args.world.now c.args.line.now
    c.format_told.new.out.items c.format_told.new.world (sym c.is_skipped.ensures ∙ c.if-is_skipped.false))

pub returns-in_err-add-in-None-clause-line : goal.returns-in_err-add-in-None-clause-line
returns-in_err-add-in-None-clause-line g c =
    let words : texts c.as_slice.result.now ≡ words_of c.args.line.now = search (rules) in
    let p = err_from_is_err_and c.from_residual-in_err-add-in-None.result c.from_residual-in_err-add-in-None.ensures.1 in
    let told = c.args.telling in
    let numbers = c.in_ok-numbers-in-None.numbers in
    let plays = makes trace.Json told.number c.args.world.now c.format_told.new.world c.args.line.now c.format_told.new.out.items numbers
    c.in-None.is (sym c.is_skipped.ensures ∙ c.if-is_skipped.false) (ap format_of (sym words) ∙ sym c.in_ok-numbers-in-None.ensures)
    c.in_ok-format_told-in-None.ensures in
    rw (p.1, p.2) (unheaded trace.Json told.number told.head.now _ _ c.args.world.now c.format_told.new.world c.args.line.now
    c.format_told.new.out.items [] None plays c.in_err-add-in-None.ensures.sent)

pub returns-in-None-clause-line : goal.returns-in-None-clause-line
returns-in-None-clause-line g c =
    let words : texts c.as_slice.result.now ≡ words_of c.args.line.now = search (rules) in
    let told = c.args.telling in
    let numbers = c.in_ok-numbers-in-None.numbers in
    let plays = makes trace.Json told.number c.args.world.now c.format_told.new.world c.args.line.now c.format_told.new.out.items numbers
    c.in-None.is (sym c.is_skipped.ensures ∙ c.if-is_skipped.false) (ap format_of (sym words) ∙ sym c.in_ok-numbers-in-None.ensures)
    c.in_ok-format_told-in-None.ensures in
    headed trace.Json told.number told.head.now _ _ c.args.world.now c.format_told.new.world c.args.line.now c.format_told.new.out.items
    plays c.in_ok-add-in-None.ensures.sent

pub returns-in_err-act-in-Some-clause-line : goal.returns-in_err-act-in-Some-clause-line
returns-in_err-act-in-Some-clause-line g c =
    let p = err_from_is_err_and c.from_residual-in_err-act-in-Some.result c.from_residual-in_err-act-in-Some.ensures.1 in
    rw (p.1, p.2) (starved trace.Json c.args.telling.number c.args.telling.head.now _ c.args.world.now c.args.line.now
    c.act.new.out.items (Some c.act.new.world) (sym c.is_skipped.ensures ∙ c.if-is_skipped.false))

pub returns-in_err-add-in-Some-clause-line : goal.returns-in_err-add-in-Some-clause-line
returns-in_err-add-in-Some-clause-line g c =
    let words : texts c.as_slice-in-Some.result.now ≡ words_of c.args.line.now = search (rules) in
    let read : command_of (texts c.as_slice-in-Some.result.now) ≡ Ok c.in_ok-command-in-Some.command = c.in_ok-command-in-Some.ensures in
    let p = err_from_is_err_and c.from_residual-in_err-add-in-Some.result c.from_residual-in_err-add-in-Some.ensures.1 in
    let told = c.args.telling in
    let command = c.in_ok-command-in-Some.command in
    let plays = played trace.Json told.number c.args.world.now c.in-Some.world c.act.new.world c.args.line.now c.act.new.out.items command
    c.in-Some.is (sym c.is_skipped.ensures ∙ c.if-is_skipped.false) (ap command_of (sym words) ∙ read)
    c.in_ok-act-in-Some.ensures in
    rw (p.1, p.2) (unheaded trace.Json told.number told.head.now _ _ c.args.world.now (Some c.act.new.world) c.args.line.now
    c.act.new.out.items [] None plays c.in_err-add-in-Some.ensures.sent)

pub returns-clause-line : goal.returns-clause-line
returns-clause-line g c =
    let words : texts c.as_slice-in-Some.result.now ≡ words_of c.args.line.now = search (rules) in
    let read : command_of (texts c.as_slice-in-Some.result.now) ≡ Ok c.in_ok-command-in-Some.command = c.in_ok-command-in-Some.ensures in
    let told = c.args.telling in
    let command = c.in_ok-command-in-Some.command in
    let plays = played trace.Json told.number c.args.world.now c.in-Some.world c.act.new.world c.args.line.now c.act.new.out.items command
    c.in-Some.is (sym c.is_skipped.ensures ∙ c.if-is_skipped.false) (ap command_of (sym words) ∙ read)
    c.in_ok-act-in-Some.ensures in
    headed trace.Json told.number told.head.now _ _ c.args.world.now (Some c.act.new.world) c.args.line.now c.act.new.out.items plays
    c.in_ok-add-in-Some.ensures.sent

pub returns-in_err-command-in-Some-clause-line : goal.returns-in_err-command-in-Some-clause-line
returns-in_err-command-in-Some-clause-line g c =
    let words : texts c.as_slice-in-Some.result.now ≡ words_of c.args.line.now = search (rules) in
    let p = err_from_is_err_and c.from_residual-in_err-command-in-Some.result c.from_residual-in_err-command-in-Some.ensures.1 in
    rw (p.1, p.2) (unread trace.Json c.args.telling.number c.args.telling.head.now c.in_err-command-in-Some.field-0.0 _
    c.args.world.now c.args.line.now c.clear.new.self.items (Some c.in-Some.world) (command_of (texts c.as_slice-in-Some.result.now))
    (sym c.is_skipped.ensures ∙ c.if-is_skipped.false) c.in_err-command-in-Some.ensures
    (λ kind is. subst (λ (w : Option WorldState). WordsFail (is_some w) (words_of c.args.line.now) kind) (sym c.in-Some.is)
    (ap command_of (sym words) ∙ is)))
