use Rattle.std.proofs.Common.{◌≡◌, [], subst, sym}
use Rattle.std.specs.Prelude.{MatchOption}
use Rattle.nv_machine.specs.World as machine
use Rattle.nv_core.specs.Shown.{killed_in}
use Rattle.nv_core.specs.Worlds.{Shows, WorldState}
use Rattle.nv_core.proofs.Insides.{held_shown}
use Rattle.nv_core.proofs.world.World.commit_of.Goals as goal

pub returns-in-Some : goal.returns-in-Some
returns-in-Some c m shows =
    let at = rw c.deref.ensures.value at c.in-Some.ensures.lookup in
    let own = c.in-Some.state.now in
    let w : WorldState = record { shared = c.self.inside.shared; actors = c.self.inside.actors.items } in
    let held =
    held_shown w m c.args.actor own own (subst (λ (v : WorldState). Shows v m) (sym c.self.view_is) shows) at.3.0 (sym (at.3.1 own)) in
    subst (λ (h : machine.HandState). MatchOption c.commit_in.result (h.killed ≡ []) (λ commit. h.killed ≡ killed_in commit.now))
    held c.commit_in.ensures
