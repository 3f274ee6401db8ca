use Rattle.std.proofs.Common.{◌∙◌, ap, refl, sym}
use Rattle.std.specs.Prelude.{Result}
use Rattle.nv_base.specs.declared.fault.Fault.{Fault}
use Rattle.nv_calls.specs.declared.answer.Answer.{Answer}
use Rattle.nv_core.proofs.Actors.{has_turned, same_some}
use Rattle.nv_core.specs.Turns.{replied, still}
use Rattle.nv_core.specs.declared.event.Reply.TheVariants as reply
use Rattle.nv_core.specs.declared.turn.Turn.{Turn}
use Rattle.nv_core.specs.declared.turn.Turn.TheVariants as turn
use Rattle.nv_core.proofs.step.make_step.Goals as goal

pub returns-in-Moves-clause-turns : goal.returns-in-Moves-clause-turns
returns-in-Moves-clause-turns c running r is shows =
    has_turned c.args.actor c.args.shared.now c.args.state.now.reserved running c.in-Some.call r c.turn.result c.args.reply.now
    c.turn.new.shared c.turn.new.reserved c.turn.new.running _ (same_some running c.in-Some.call (sym is ∙ c.in-Some.is)) shows
    c.turn.ensures.turn c.turn.ensures.waits refl (sym (ap (λ (t : Turn). still t c.turn.new.running) c.in-Moves.is))
    (c.requires.moved ∙ sym (ap (λ (t : Turn). replied t c.turn.new.running.answer) c.in-Moves.is))

pub returns-in-Waits-clause-turns : goal.returns-in-Waits-clause-turns
returns-in-Waits-clause-turns c running r is shows =
    has_turned c.args.actor c.args.shared.now c.args.state.now.reserved running c.in-Some.call r c.turn.result reply.Waits
    c.turn.new.shared c.turn.new.reserved c.turn.new.running _ (same_some running c.in-Some.call (sym is ∙ c.in-Some.is)) shows
    c.turn.ensures.turn c.turn.ensures.waits refl (sym (ap (λ (t : Turn). still t c.turn.new.running) c.in-Waits.is))
    (sym (ap (λ (t : Turn). replied t c.turn.new.running.answer) c.in-Waits.is))

pub returns-in-Ends-clause-turns : goal.returns-in-Ends-clause-turns
returns-in-Ends-clause-turns c running r is shows =
    has_turned c.args.actor c.args.shared.now c.args.state.now.reserved running c.in-Some.call r c.turn.result c.ended.result
    c.turn.new.shared c.turn.new.reserved c.turn.new.running _ (same_some running c.in-Some.call (sym is ∙ c.in-Some.is)) shows
    c.turn.ensures.turn c.turn.ensures.waits refl
    (c.forget.ensures ∙ sym (ap (λ (t : Turn). still t c.turn.new.running) c.in-Ends.is))
    (c.ended.ensures ∙ ap (λ (answer : Result Answer Fault). replied turn.Ends answer) c.replace.ensures.value
    ∙ sym (ap (λ (t : Turn). replied t c.turn.new.running.answer) c.in-Ends.is))
