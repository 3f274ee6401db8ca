use Rattle.std.proofs.Common.{subst, sym}
use Rattle.nv_core.proofs.NextSteps.{told_next}
use Rattle.nv_core.proofs.WorldKept.{can_go}
use Rattle.nv_core.specs.Worlds.{Shows, WorldState}
use Rattle.nv_core.proofs.world.World.next_step.Goals as goal

pub next_of-requires-clause-can : goal.next_of-requires-clause-can
next_of-requires-clause-can c =
    let at = rw c.deref.ensures.value at c.in-Some.ensures.lookup in
    let own = c.in-Some.state.now in
    let w : WorldState = record { shared = c.self.inside.shared; actors = c.self.inside.actors.items } in
    can_go w c.self.invariant.0 c.args.actor at.3.0 own own (sym (at.3.1 own))

pub returns-in-Some : goal.returns-in-Some
returns-in-Some c m shows =
    let at = rw c.deref.ensures.value at c.in-Some.ensures.lookup in
    let own = c.in-Some.state.now in
    let w : WorldState = record { shared = c.self.inside.shared; actors = c.self.inside.actors.items } in
    told_next w m (subst (λ (v : WorldState). Shows v m) (sym c.self.view_is) shows) c.self.invariant.0 c.args.actor at.3.0 own own
    (sym (at.3.1 own)) c.next_of.result c.next_of.ensures.none c.next_of.ensures.some
