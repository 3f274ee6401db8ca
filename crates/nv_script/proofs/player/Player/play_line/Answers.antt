use Rattle.std.proofs.Common.{refl}
use Rattle.nv_script.specs.declared.trace.Trace.TheVariants as trace
use Rattle.nv_script.proofs.Endings.{told_off}
use Rattle.nv_script.proofs.player.Player.play_line.Goals as goal

pub returns-clause-line : goal.returns-clause-line
returns-clause-line g c =
    let telling = c.answers-telling.result in
    let told = c.answers-telling.ensures in
    told_off trace.Off telling.number telling.head.now c.answer_line.result _ _ _ _ _ refl told.number told.head
    c.answer_line.ensures.line
