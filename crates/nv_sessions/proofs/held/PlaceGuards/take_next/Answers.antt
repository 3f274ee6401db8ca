use Rattle.std.proofs.Common.{◌∙◌}
use Rattle.nv_sessions.proofs.held.PlaceGuards.take_next.Goals as goal

pub returns-in-Ok-clause-taken : goal.returns-in-Ok-clause-taken
returns-in-Ok-clause-taken g c =
    let out = c.take_out-guard.ensures in
    (c.take_out-guard.result.1, c.add.ensures.cells, out.ino ∙ c.in-Ok.ensures.ok, out.taken, out.amount)
