use Rattle.std.proofs.Common.{◌≡◌, ◌∙◌, ap, subst, sym}
use Rattle.nv_machine.specs.World as machine
use Rattle.nv_core.specs.Shown.{hand_with, held_by}
use Rattle.nv_core.specs.Worlds.{Shows, WorldState}
use Rattle.nv_core.proofs.Insides.{held_shown, whole}
use Rattle.nv_core.proofs.world.World.hand.Goals as goal

pub returns-in-Some : goal.returns-in-Some
returns-in-Some c m shows =
    let at = rw c.deref.ensures.value at c.in-Some.ensures.lookup in
    let own = c.in-Some.state.now in
    let w : WorldState = record { shared = c.self.inside.shared; actors = c.self.inside.actors.items } in
    let held =
    held_shown w m c.args.actor own own (subst (λ (v : WorldState). Shows v m) (sym c.self.view_is) shows) at.3.0 (sym (at.3.1 own)) in
    subst (λ (h : machine.HandState). hand_with h.killed c.hand_of.result.now ≡ h) held
    (ap (hand_with (held_by own.reserved).killed) c.hand_of.ensures ∙ whole own.reserved)
