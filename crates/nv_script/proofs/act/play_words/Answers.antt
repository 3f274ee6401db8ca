use Rattle.std.proofs.Common.{◌≡◌, ◌∙◌, [], Option, None, Err, Ok, Some, ap, is_some, refl, subst, sym}
use Rattle.std.proofs.lemmas.Result.{err_from_is_err_and}
use Rattle.nv_script.specs.declared.command.Command.TheVariants as command
use Rattle.nv_core.specs.Worlds.{WorldState}
use Rattle.nv_script.specs.Grammar.{command_of, format_of, texts}
use Rattle.nv_script.specs.Play.{WordsFail}
use Rattle.nv_script.specs.Results.{Sent}
use Rattle.nv_script.specs.Words.{words_of}
use Rattle.nv_script.proofs.Asking.{asks_by, no_world_asks, other_asks}
use Rattle.nv_script.proofs.Played.{formats, headed, lists_line, played, starved, unheaded, unread}
use Rattle.nv_script.proofs.act.play_words.Goals as goal

pub returns-in_err-format-in-None-clause-line : goal.returns-in_err-format-in-None-clause-line
returns-in_err-format-in-None-clause-line g c =
    let p = err_from_is_err_and c.from_residual-in_err-format-in-None.result c.from_residual-in_err-format-in-None.ensures.1 in
    rw (p.1, p.2) (starved g.T.CommandTeller.form c.args.telling.number c.args.telling.head.now _ c.args.world.now c.args.line.now c.format.new.out.items c.format.new.world
    c.requires.command)

pub returns-in_err-add-in-None-clause-line : goal.returns-in_err-add-in-None-clause-line
returns-in_err-add-in-None-clause-line g c =
    let p = err_from_is_err_and c.from_residual-in_err-add-in-None.result c.from_residual-in_err-add-in-None.ensures.1 in
    let plays = formats g.T.CommandTeller.form c.args.telling.number c.args.world.now c.format.new.world c.args.line.now c.format.new.out.items c.in_ok-numbers-in-None.numbers
    c.requires.form c.in-None.is c.requires.command
    (ap format_of (sym c.requires.words) ∙ sym c.in_ok-numbers-in-None.ensures) c.in_ok-format-in-None.ensures in
    rw (p.1, p.2) (unheaded g.T.CommandTeller.form c.args.telling.number c.args.telling.head.now _ _ c.args.world.now c.format.new.world c.args.line.now c.format.new.out.items [] None plays
    c.in_err-add-in-None.ensures.sent)

pub returns-in_ok-add-in-None-clause-line : goal.returns-in_ok-add-in-None-clause-line
returns-in_ok-add-in-None-clause-line g c =
    let plays = formats g.T.CommandTeller.form c.args.telling.number c.args.world.now c.format.new.world c.args.line.now c.format.new.out.items c.in_ok-numbers-in-None.numbers
    c.requires.form c.in-None.is c.requires.command
    (ap format_of (sym c.requires.words) ∙ sym c.in_ok-numbers-in-None.ensures) c.in_ok-format-in-None.ensures in
    headed g.T.CommandTeller.form c.args.telling.number c.args.telling.head.now _ _ c.args.world.now c.format.new.world c.args.line.now c.format.new.out.items plays c.in_ok-add-in-None.ensures.sent

pub returns-in_err-write_tree_behind-in-Tree-clause-line : goal.returns-in_err-write_tree_behind-in-Tree-clause-line
returns-in_err-write_tree_behind-in-Tree-clause-line g c =
    let read : command_of (texts c.args.words.now) ≡ Ok c.in_ok-command-in-Some.command = c.in_ok-command-in-Some.ensures in
    let p = err_from_is_err_and c.from_residual-in_err-write_tree_behind-in-Tree.result
    c.from_residual-in_err-write_tree_behind-in-Tree.ensures.1 in
    rw (p.1, p.2) (lists_line g.T.CommandTeller.form c.args.telling.number c.args.telling.head.now (Err c.in_err-write_tree_behind-in-Tree.field-0.0) _ _ c.args.world.now c.in-Some.world
    c.args.line.now c.write_tree_behind.new.out.items command.Tree c.requires.form c.in-Some.is c.requires.command
    (ap command_of (sym c.requires.words) ∙ read ∙ ap Ok c.in-Tree.is) refl c.in_err-write_tree_behind-in-Tree.ensures.lines)

pub returns-in_ok-write_tree_behind-in-Tree-clause-line : goal.returns-in_ok-write_tree_behind-in-Tree-clause-line
returns-in_ok-write_tree_behind-in-Tree-clause-line g c =
    let read : command_of (texts c.args.words.now) ≡ Ok c.in_ok-command-in-Some.command = c.in_ok-command-in-Some.ensures in
    let to : Sent = record {
      written = g.W.CountedWrite.contents c.write_tree_behind.new.writer;
      gathered = c.write_tree_behind.new.outbox;
    } in
    lists_line g.T.CommandTeller.form c.args.telling.number c.args.telling.head.now (Ok tt) _ to c.args.world.now c.in-Some.world c.args.line.now c.write_tree_behind.new.out.items command.Tree
    c.requires.form c.in-Some.is c.requires.command (ap command_of (sym c.requires.words) ∙ read ∙ ap Ok c.in-Tree.is) refl
    c.in_ok-write_tree_behind-in-Tree.ensures.lines

pub returns-in_ok-write_tree_behind-in-Tree-clause-asked : goal.returns-in_ok-write_tree_behind-in-Tree-clause-asked
returns-in_ok-write_tree_behind-in-Tree-clause-asked g c = λ asks.
    let read : command_of (texts c.args.words.now) ≡ Ok c.in_ok-command-in-Some.command = c.in_ok-command-in-Some.ensures in
    other_asks command.Tree c.args.world.now c.args.line.now (ap command_of (sym c.requires.words) ∙ read ∙ ap Ok c.in-Tree.is) refl asks

pub returns-in_err-write_tree_behind-in-SnapTree-clause-line : goal.returns-in_err-write_tree_behind-in-SnapTree-clause-line
returns-in_err-write_tree_behind-in-SnapTree-clause-line g c =
    let read : command_of (texts c.args.words.now) ≡ Ok c.in_ok-command-in-Some.command = c.in_ok-command-in-Some.ensures in
    let p = err_from_is_err_and c.from_residual-in_err-write_tree_behind-in-SnapTree.result
    c.from_residual-in_err-write_tree_behind-in-SnapTree.ensures.1 in
    rw (p.1, p.2) (lists_line g.T.CommandTeller.form c.args.telling.number c.args.telling.head.now (Err c.in_err-write_tree_behind-in-SnapTree.field-0.0) _ _ c.args.world.now c.in-Some.world
    c.args.line.now c.write_tree_behind-in-SnapTree.new.out.items (command.SnapTree c.in-SnapTree.s) c.requires.form c.in-Some.is
    c.requires.command (ap command_of (sym c.requires.words) ∙ read ∙ ap Ok c.in-SnapTree.is) refl
    (λ m shown. rw c.new.ensures at (c.in_err-write_tree_behind-in-SnapTree.ensures.lines m shown)))

pub returns-in_ok-write_tree_behind-in-SnapTree-clause-line : goal.returns-in_ok-write_tree_behind-in-SnapTree-clause-line
returns-in_ok-write_tree_behind-in-SnapTree-clause-line g c =
    let read : command_of (texts c.args.words.now) ≡ Ok c.in_ok-command-in-Some.command = c.in_ok-command-in-Some.ensures in
    let to : Sent = record {
      written = g.W.CountedWrite.contents c.write_tree_behind-in-SnapTree.new.writer;
      gathered = c.write_tree_behind-in-SnapTree.new.outbox;
    } in
    lists_line g.T.CommandTeller.form c.args.telling.number c.args.telling.head.now (Ok tt) _ to c.args.world.now c.in-Some.world c.args.line.now c.write_tree_behind-in-SnapTree.new.out.items
    (command.SnapTree c.in-SnapTree.s)
    c.requires.form c.in-Some.is c.requires.command (ap command_of (sym c.requires.words) ∙ read ∙ ap Ok c.in-SnapTree.is) refl
    (λ m shown. rw c.new.ensures at (c.in_ok-write_tree_behind-in-SnapTree.ensures.lines m shown))

pub returns-in_ok-write_tree_behind-in-SnapTree-clause-asked : goal.returns-in_ok-write_tree_behind-in-SnapTree-clause-asked
returns-in_ok-write_tree_behind-in-SnapTree-clause-asked g c = λ asks.
    let read : command_of (texts c.args.words.now) ≡ Ok c.in_ok-command-in-Some.command = c.in_ok-command-in-Some.ensures in
    other_asks (command.SnapTree c.in-SnapTree.s) c.args.world.now c.args.line.now
    (ap command_of (sym c.requires.words) ∙ read ∙ ap Ok c.in-SnapTree.is) refl asks

pub returns-in_err-asked-in_default-clause-line : goal.returns-in_err-asked-in_default-clause-line
returns-in_err-asked-in_default-clause-line g c =
    let p = err_from_is_err_and c.from_residual-in_err-asked-in_default.result c.from_residual-in_err-asked-in_default.ensures.1 in
    rw (p.1, p.2) (starved g.T.CommandTeller.form c.args.telling.number c.args.telling.head.now _ c.args.world.now c.args.line.now c.act.new.out.items (Some c.act.new.world)
    c.requires.command)

pub returns-in_err-add-in_default-clause-line : goal.returns-in_err-add-in_default-clause-line
returns-in_err-add-in_default-clause-line g c =
    let read : command_of (texts c.args.words.now) ≡ Ok c.in_ok-command-in-Some.command = c.in_ok-command-in-Some.ensures in
    let p = err_from_is_err_and c.from_residual-in_err-add-in_default.result c.from_residual-in_err-add-in_default.ensures.1 in
    let plays = played g.T.CommandTeller.form c.args.telling.number c.args.world.now c.in-Some.world c.act.new.world c.args.line.now c.act.new.out.items
    c.in_ok-command-in-Some.command c.in-Some.is c.requires.command
    (ap command_of (sym c.requires.words) ∙ read) c.in_ok-asked-in_default.ensures.acts in
    rw (p.1, p.2) (unheaded g.T.CommandTeller.form c.args.telling.number c.args.telling.head.now _ _ c.args.world.now (Some c.act.new.world) c.args.line.now c.act.new.out.items [] None plays
    c.in_err-add-in_default.ensures.sent)

pub returns-in_ok-add-in_default-clause-line : goal.returns-in_ok-add-in_default-clause-line
returns-in_ok-add-in_default-clause-line g c =
    let read : command_of (texts c.args.words.now) ≡ Ok c.in_ok-command-in-Some.command = c.in_ok-command-in-Some.ensures in
    let plays = played g.T.CommandTeller.form c.args.telling.number c.args.world.now c.in-Some.world c.act.new.world c.args.line.now c.act.new.out.items
    c.in_ok-command-in-Some.command c.in-Some.is c.requires.command
    (ap command_of (sym c.requires.words) ∙ read) c.in_ok-asked-in_default.ensures.acts in
    headed g.T.CommandTeller.form c.args.telling.number c.args.telling.head.now _ _ c.args.world.now (Some c.act.new.world) c.args.line.now c.act.new.out.items plays c.in_ok-add-in_default.ensures.sent

pub returns-in_ok-add-in_default-clause-asked : goal.returns-in_ok-add-in_default-clause-asked
returns-in_ok-add-in_default-clause-asked g c = λ asks.
    let read : command_of (texts c.args.words.now) ≡ Ok c.in_ok-command-in-Some.command = c.in_ok-command-in-Some.ensures in
    c.in_ok-asked-in_default.ensures.asked (asks_by c.args.world.now c.args.line.now _ (ap command_of (sym c.requires.words) ∙ read) asks)

pub returns-in_ok-add-in-None-clause-asked : goal.returns-in_ok-add-in-None-clause-asked
returns-in_ok-add-in-None-clause-asked g c = λ asks. no_world_asks c.args.world.now c.args.line.now c.in-None.is asks

pub returns-in_err-command-in-Some-clause-line : goal.returns-in_err-command-in-Some-clause-line
returns-in_err-command-in-Some-clause-line g c =
    let p = err_from_is_err_and c.from_residual-in_err-command-in-Some.result c.from_residual-in_err-command-in-Some.ensures.1 in
    rw (p.1, p.2) (unread g.T.CommandTeller.form c.args.telling.number c.args.telling.head.now c.in_err-command-in-Some.field-0.0 _
    c.args.world.now c.args.line.now c.args.out.now.items (Some c.in-Some.world) (command_of (texts c.args.words.now))
    c.requires.command c.in_err-command-in-Some.ensures
    (λ kind is. subst (λ (w : Option WorldState). WordsFail (is_some w) (words_of c.args.line.now) kind) (sym c.in-Some.is)
    (ap command_of (sym c.requires.words) ∙ is)))
