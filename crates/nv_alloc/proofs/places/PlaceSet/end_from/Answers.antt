use Rattle.std.proofs.Common.{◌≡◌, ◌<◌, ap, arith, length}
use Rattle.nv_alloc.proofs.WordBits.{flag_like, flag_unlike, length-flags_of, words_within}
use Rattle.nv_alloc.proofs.places.PlaceSet.end_from.Goals as goal

pub end_of_bits-bit-requires : goal.end_of_bits-bit-requires
end_of_bits-bit-requires c =
    let is = c.self.invariant in
    omega (arith, is.small, is.bits_len, ap length c.deref.ensures.value)

pub returns-clause-from : goal.returns-clause-from
returns-clause-from c =
    omega (arith, rw (← c.self.view_is) at c.requires, length-flags_of c.self.inside.len c.self.inside.bits.items)

pub returns-clause-within : goal.returns-clause-within
returns-clause-within c = rw (← c.self.view_is) (omega (arith, length-flags_of c.self.inside.len c.self.inside.bits.items))

pub returns-clause-before : goal.returns-clause-before
returns-clause-before c k from less =
    let s = c.self.inside in
    let ends = rw c.deref.ensures.value at c.end_of_bits-bit.ensures in
    let within : k < s.len = omega (arith, less) in
    let words = words_within s.len k _ _ _ c.self.invariant within in
    rw (← c.self.view_is) (flag_like s.len s.bits.items k c.args.full within (ends.before k from (omega (arith, less)) words.0))

pub returns-clause-at : goal.returns-clause-at
returns-clause-at c less =
    let s = c.self.inside in
    let ends = rw c.deref.ensures.value at c.end_of_bits-bit.ensures in
    let within : c.min-end.result < s.len = omega (arith, rw (← c.self.view_is) at less, length-flags_of s.len s.bits.items) in
    let same : c.end_of_bits-bit.result ≡ c.min-end.result = omega (arith, within) in
    let words = words_within s.len _ _ _ _ c.self.invariant within in
    let unlike = rw same at ends.at in
    rw (← c.self.view_is) (flag_unlike s.len s.bits.items _ c.args.full within (unlike words.0))
