use Rattle.std.proofs.Common.{◌≡◌, ◌∙◌, arith, length-take, sym, slice_index_or, take}
use Rattle.std.proofs.lemmas.Bool.{eqb-true}
use Rattle.std.proofs.lemmas.Grind.{get_or_default_zero}
use Rattle.std.proofs.lemmas.List.{get_or-take}
use Rattle.nv_calls.specs.SlotList.{slots_in}
use Rattle.nv_calls.proofs.SlotLists.{with_known}
use Rattle.nv_calls.proofs.slots.LockedSlots.with_slot.Goals as goal

pub returns-then-eq : goal.returns-then-eq
returns-then-eq c =
    let inos = c.args.self.inos in
    let count = c.args.self.count in
    let place = c.place_of-place.result in
    let i = c.index-self-place.result in
    let is : slice_index_or inos place i ≡ c.args.ino = eqb-true (slice_index_or inos place i) c.args.ino (sym c.eq.ensures
    ∙ c.if-eq.true) in
    let here : slice_index_or (take count inos) place 0 ≡ c.args.ino =
    get_or-take count inos place 0 c.if-place-self.true ∙ sym
    (get_or_default_zero inos place i (omega (arith, c.if-place-self.true, c.args.self.few, c.well_formed))) ∙ is in
    sym (with_known (slots_in c.args.self) c.args.ino place (omega
    (arith, c.if-place-self.true, length-take count inos, c.place_of-place.ensures.within, c.args.self.few, c.well_formed))
    c.place_of-place.ensures.before here)
