use Rattle.std.proofs.Common.{refl}
use Rattle.nv_core.proofs.running.first_step.Goals as goal

pub returns-in-Change-clause-before : goal.returns-in-Change-clause-before
returns-in-Change-clause-before c =
    c.first_of_change.ensures.before c.args.request.now c.in-Change.update (rw c.in-Change.is refl) refl
