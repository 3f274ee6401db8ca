use Rattle.std.proofs.Common.{subst, sym}
use Rattle.nv_core.proofs.RunningCalls.{named_running}
use Rattle.nv_core.specs.Worlds.{Shows, WorldState}
use Rattle.nv_core.proofs.world.World.running_call.Goals as goal

pub returns-in-Some : goal.returns-in-Some
returns-in-Some c m shows =
    let at = rw c.deref.ensures.value at c.in-Some.ensures.lookup in
    let own = c.in-Some.state.now in
    let w : WorldState = record { shared = c.self.inside.shared; actors = c.self.inside.actors.items } in
    named_running w m (subst (λ (v : WorldState). Shows v m) (sym c.self.view_is) shows) c.args.actor at.3.0 own own
    (sym (at.3.1 own)) c.call_of.result c.call_of.ensures.none c.call_of.ensures.some
