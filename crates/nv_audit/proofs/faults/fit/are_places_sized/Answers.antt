use Rattle.std.proofs.Common.{refl, sym, ◌∙◌}
use Rattle.std.specs.Prelude.{option_to_list}
use Rattle.std.proofs.lemmas.Bool.{false≢true}
use Rattle.nv_audit.proofs.Sized.{all_sized, its_size, one_sized_more}
use Rattle.nv_audit.proofs.faults.fit.are_places_sized.Goals as goal

pub loop-place-init : goal.loop-place-init
loop-place-init c = (λ all. all, λ all. all)

pub returns-then-not-is_place_sized : goal.returns-then-not-is_place_sized
returns-then-not-is_place_sized c = (
  λ no. absurd (false≢true no),
  λ all. absurd (false≢true (sym c.if-not-is_place_sized.true ∙ c.is_place_sized.ensures.1
      (its_size c.args.size option_to_list c.args.places.now c.loop-place.place-index c.place-item.result c.loop-place-test.true
      c.place-item.is c.loop-place.invariant all))),
)

pub loop-place-preserved : goal.loop-place-preserved
loop-place-preserved c =
    one_sized_more c.args.size option_to_list c.args.places.now c.loop-place.place-index c.place-item.result c.loop-place-test.true
    c.place-item.is c.loop-place.invariant (c.is_place_sized.ensures.0 c.if-not-is_place_sized.false)

pub returns : goal.returns
returns c = (
  λ yes. all_sized c.args.size option_to_list c.args.places.now c.loop-place.place-index c.loop-place-test.false c.loop-place.invariant,
  λ all. refl,
)
