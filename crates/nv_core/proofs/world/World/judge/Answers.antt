use Rattle.std.proofs.Common.{◌∙◌, ap, subst, sym, List}
use Rattle.std.specs.List.{flat_map}
use Rattle.nv_audit.specs.declared.pending.InHands.{InHands}
use Rattle.nv_core.specs.Audited.{blocks_by, parts_by}
use Rattle.nv_core.specs.Worlds.{Shows, WorldState}
use Rattle.nv_core.specs.declared.world.Actor.{Actor}
use Rattle.nv_core.proofs.AuditShown.{judged, told}
use Rattle.nv_core.proofs.world.World.judge.Goals as goal

pub returns-clause-judged : goal.returns-clause-judged
returns-clause-judged c = λ m shows.
    let w : WorldState = record { shared = c.self.inside.shared; actors = c.self.inside.actors.items } in
    let hands : InHands = record { blocks = c.in_ok-blocks.blocks; parts = c.in_ok-parts.parts } in
    judged w c.self.invariant.0 _ _ hands c.deref-3.ensures.value c.deref-4.ensures.value
    (c.in_ok-parts.ensures ∙ ap (λ (xs : List Actor). flat_map parts_by xs) c.deref-2.ensures.value)
    (c.in_ok-blocks.ensures ∙ ap (λ (xs : List Actor). flat_map blocks_by xs) c.deref.ensures.value)
    c.audit.result c.audit.ensures.ok m (subst (λ (v : WorldState). Shows v m) (sym c.self.view_is) shows)

pub returns-clause-answer : goal.returns-clause-answer
returns-clause-answer c =
    let w : WorldState = record { shared = c.self.inside.shared; actors = c.self.inside.actors.items } in
    let hands : InHands = record { blocks = c.in_ok-blocks.blocks; parts = c.in_ok-parts.parts } in
    told w c.self.invariant.0 _ _ hands c.deref-3.ensures.value c.deref-4.ensures.value
    (c.in_ok-parts.ensures ∙ ap (λ (xs : List Actor). flat_map parts_by xs) c.deref-2.ensures.value)
    (c.in_ok-blocks.ensures ∙ ap (λ (xs : List Actor). flat_map blocks_by xs) c.deref.ensures.value)
    c.audit.result c.audit.ensures.err
