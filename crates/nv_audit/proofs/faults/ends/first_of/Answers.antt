use Rattle.std.proofs.Common.{refl, sym, ◌∙◌}
use Rattle.nv_audit.proofs.Found.{found_here, found_later, found_none}
use Rattle.nv_audit.proofs.faults.ends.first_of.Goals as goal

pub loop-place-init : goal.loop-place-init
loop-place-init c = refl

pub returns-then-is_at_place : goal.returns-then-is_at_place
returns-then-is_at_place c =
    c.as_ref.ensures.value
    ∙ sym (found_here c.args.places.now c.args.number c.loop-place.place-index c.place-item.result c.loop-place-test.true c.place-item.is
    (sym c.is_at_place.ensures ∙ c.if-is_at_place.true))
    ∙ c.loop-place.invariant

pub loop-place-preserved : goal.loop-place-preserved
loop-place-preserved c =
    sym (found_later c.args.places.now c.args.number c.loop-place.place-index c.place-item.result c.loop-place-test.true c.place-item.is
    (sym c.is_at_place.ensures ∙ c.if-is_at_place.false))
    ∙ c.loop-place.invariant

pub returns : goal.returns
returns c =
    sym (found_none c.args.places.now c.args.number c.loop-place.place-index c.loop-place-test.false) ∙ c.loop-place.invariant
