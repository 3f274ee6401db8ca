use Rattle.std.proofs.Common.{◌≡◌, ◌∙◌, ap, subst, sym}
use Rattle.nv_core.specs.Shown.{next_of, shown}
use Rattle.nv_core.specs.GhostCalls.{IsRequestOf}
use Rattle.nv_core.specs.declared.request.Request.{Request}
use Rattle.nv_core.proofs.kinds.visit.visit.Goals as goal

pub returns-clause-turn : goal.returns-clause-turn
returns-clause-turn c told is =
    let visit = c.in-Visit-replace.call in
    let told_is : told.call ≡ visit =
    subst (λ (j : Request). IsRequestOf j c.args.running.now.owed told.call) (sym c.in-Visit-replace.ensures.value) is in
    c.found.ensures (shown told c.args.running.now) (ap next_of c.requires.next) told_is c.requires.slots
