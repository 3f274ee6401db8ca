use Rattle.std.proofs.Common.{◌∙◌, ap, bytes_eq, sym}
use Rattle.nv_script.specs.Grammar.{all_calls}
use Rattle.nv_script.specs.declared.call.CallWord.TheVariants.{Create}
use Rattle.nv_script.proofs.Commands.{named-skip}
use Rattle.nv_script.proofs.call.CallWord.named.Goals as goal

pub loop-call-preserved : goal.loop-call-preserved
loop-call-preserved c =
    c.loop-call.invariant
    ∙ named-skip all_calls c.loop-call.call-index Create c.args.name.now c.loop-call-test.true
    (ap (bytes_eq c.args.name.now) (sym c.name.ensures) ∙ sym c.eq.ensures ∙ c.if-eq.false)
