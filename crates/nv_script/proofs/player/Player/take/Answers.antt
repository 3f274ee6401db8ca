use Rattle.std.proofs.Common.{refl, sym}
use Rattle.std.proofs.lemmas.Bool.{false≢true}
use Rattle.nv_script.proofs.Failures.{due_written, takes_line}
use Rattle.nv_script.proofs.player.Player.take.Goals as goal

pub returns-in_default-clause-taken : goal.returns-in_default-clause-taken
returns-in_default-clause-taken g c = c.in_default.ensures.sent

pub returns-in_default-next_line-clause-taken : goal.returns-in_default-next_line-clause-taken
returns-in_default-next_line-clause-taken g c =
    let failed = c.in_default-next_line.ensures in (
      c.in-Ok.ensures.sent,
      due_written _ _ c.in-Ok.ensures.unheld (λ has. false≢true (failed.there has)),
      failed.ahead refl,
      failed.line,
      failed.taken,
    )

pub returns-clause-taken : goal.returns-clause-taken
returns-clause-taken g c =
    let took = c.in-Ok-next_line.ensures in
    takes_line _ _ _ _ _ _ _ _ _ (sym c.is_line.ensures) c.in-Ok.ensures.sent took.line took.taken
