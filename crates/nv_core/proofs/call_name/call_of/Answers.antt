use Rattle.std.proofs.Common.{◌≡◌, ◌∙◌, Some, ap, subst}
use Rattle.nv_core.specs.GhostCalls.{IsShownCallOf}
use Rattle.nv_core.specs.Worlds.{shown_call_of}
use Rattle.nv_core.specs.declared.running.Running.{Running}
use Rattle.nv_core.proofs.call_name.call_of.Goals as goal

pub returns-in-Some-clause-some : goal.returns-in-Some-clause-some
returns-in-Some-clause-some c running r is shows =
    let own = c.in-Some.running in
    let same : running ≡ own = cc in
    let request = subst (λ (x : Running). IsShownCallOf x (shown_call_of r)) same shows.request in
    ap Some (c.name_of.ensures r.call request)
