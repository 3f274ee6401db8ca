use Rattle.std.proofs.Common.{◌≡◌, ◌∙◌, ap, false, refl, subst, sym, true}
use Rattle.std.specs.List.{list_any}
use Rattle.nv_audit.specs.AtRest.{IsOneBook}
use Rattle.nv_core.proofs.AtRest.{busy, rests}
use Rattle.nv_core.proofs.StartsAtRest.{rested}
use Rattle.nv_core.specs.AtRest.{AreJudged, at_rest, has_call, parts_of}
use Rattle.nv_core.specs.Worlds.{Shows, WorldState}
use Rattle.nv_parts.specs.declared.parts.Parts.{Parts}
use Rattle.nv_core.proofs.world.World.into_parts.Goals as goal

pub returns-then-has_call-clause-err : goal.returns-then-has_call-clause-err
returns-then-has_call-clause-err c m shows =
    let w : WorldState = record { shared = c.self.inside.shared; actors = c.self.inside.actors.items } in
    let some : list_any has_call w.actors ≡ true =
    ap (list_any has_call) (sym c.deref.ensures.value) ∙ sym c.if-has_call.ensures in
    (refl, busy w m (subst (λ (v : WorldState). Shows v m) (sym c.self.view_is) shows) some)

pub returns-clause-rest : goal.returns-clause-rest
returns-clause-rest c m shows =
    let w : WorldState = record { shared = c.self.inside.shared; actors = c.self.inside.actors.items } in
    let none : list_any has_call w.actors ≡ false =
    ap (list_any has_call) (sym c.deref.ensures.value) ∙ sym c.if-has_call.ensures in
    let parts : parts_of w.shared ≡ c.into_parts-parts.result =
    ap (λ (v : WorldState). parts_of v.shared) c.self.view_is ∙ sym (c.into_parts-parts.ensures ∙ ap parts_of c.into_shared.ensures) in
    rests w c.self.invariant.0 none m (subst (λ (v : WorldState). Shows v m) (sym c.self.view_is) shows)
    ∙ ap at_rest parts

pub returns-clause-judged : goal.returns-clause-judged
returns-clause-judged c =
    let w : WorldState = record { shared = c.self.inside.shared; actors = c.self.inside.actors.items } in
    let none : list_any has_call w.actors ≡ false =
    ap (list_any has_call) (sym c.deref.ensures.value) ∙ sym c.if-has_call.ensures in
    let parts : parts_of w.shared ≡ c.into_parts-parts.result =
    ap (λ (v : WorldState). parts_of v.shared) c.self.view_is ∙ sym (c.into_parts-parts.ensures ∙ ap parts_of c.into_shared.ensures) in
    let is = c.self.invariant.0.2 in
    subst (λ (p : Parts). AreJudged p) parts
    (rested (parts_of w.shared) c.self.invariant.0.1 (subst (λ (p : Parts). IsOneBook p.book.state) (sym parts) c.book_holds_together.ensures)
    is.is_start is.may (sym (rests w c.self.invariant.0 none c.self.invariant.0.0 is.shows) ∙ is.reached))
