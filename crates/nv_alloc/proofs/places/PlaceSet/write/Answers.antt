use Rattle.std.proofs.Common.{◌<◌, arith}
use Rattle.nv_alloc.proofs.WordBits.{flags_of-written, length-flags_of, set_written, words_within}
use Rattle.nv_alloc.proofs.places.PlaceSet.write.Goals as goal
use Rattle.nv_alloc.proofs.places.PlaceSet.write.Goals.{After-self}

within : (c : After-self) → c.args.place < c.self.inside.len
within c = omega (arith, rw (← c.self.view_is) at c.requires, length-flags_of c.self.inside.len c.self.inside.bits.items)

pub write_bit-requires : goal.write_bit-requires
write_bit-requires c =
    let words = words_within _ c.args.place _ _ _ c.self.invariant (within (goal.at.write_bit-requires c).After-self) in
    omega (arith, words.0)

pub mark-requires : goal.mark-requires
mark-requires c =
    let words = words_within _ c.args.place _ _ _ c.self.invariant (within (goal.at.mark-requires c).After-self) in
    record {
      within = rw c.deref.ensures.value (omega (arith, words.0, c.write_bit.ensures.count));
      marked = omega (arith, words.1.0);
    }

pub mark-requires-2 : goal.mark-requires-2
mark-requires-2 c =
    let words = words_within _ c.args.place _ _ _ c.self.invariant (within (goal.at.mark-requires-2 c).After-self) in
    record {
      within = rw c.deref-2.ensures.value (omega (arith, words.1.0, c.mark.ensures.count));
      marked = omega (arith, words.1.1);
    }

pub invariant_of-self : goal.invariant_of-self
invariant_of-self c =
    let s = c.self.inside in
    set_written s.len c.args.place _ s.bits.items s.words.items s.groups.items _ _ _ c.self.invariant
    (within (goal.at.invariant_of-self c).After-self) c.write_bit.ensures
    (rw c.deref.ensures.value at c.mark.ensures) (rw c.deref-2.ensures.value at c.mark-2.ensures)

pub returns : goal.returns
returns c =
    let s = c.self.inside in
    rw (← c.self.view_is) (flags_of-written s.len s.bits.items c.write_bit.new.words.items c.args.place c.args.value
    (within (goal.at.returns c).After-self) c.write_bit.ensures)
