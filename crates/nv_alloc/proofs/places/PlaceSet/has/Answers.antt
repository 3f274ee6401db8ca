use Rattle.std.proofs.Common.{ℕ, ◌/◌, ◌%◌, ◌<◌, ◌==◌, ap, sym, arith, ◌∙◌}
use Rattle.std.specs.Int.{bit_at}
use Rattle.std.proofs.lemmas.List.{get_or_default}
use Rattle.std.proofs.lemmas.Nat.Bits.{shr_and_one}
use Rattle.nv_alloc.proofs.WordBits.{get_or-flags_of, length-flags_of, words_within}
use Rattle.nv_alloc.proofs.places.PlaceSet.has.Goals as goal
use Rattle.nv_alloc.proofs.places.PlaceSet.has.Goals.{After-self}

within : (c : After-self) → c.args.place < c.self.inside.len
within c = omega (arith, rw (← c.self.view_is) at c.requires, length-flags_of c.self.inside.len c.self.inside.bits.items)

pub index-word-requires : goal.index-word-requires
index-word-requires c =
    let s = c.self.inside in
    let words = words_within s.len c.args.place _ _ _ c.self.invariant (within (goal.at.index-word-requires c).After-self) in
    omega (arith, words.0)

pub returns : goal.returns
returns c =
    let s = c.self.inside in
    let here = within (goal.at.returns c).After-self in
    let words = words_within s.len c.args.place _ _ _ c.self.invariant here in
    let read = c.index-word.ensures ∙ get_or_default s.bits.items (c.args.place / 64) c.index-word.result.now 0 words.0 in
    let bit = shr_and_one c.index-word.result.now (c.args.place % 64) ∙ ap (λ (w : ℕ). bit_at w (c.args.place % 64)) read in
    rw (← c.self.view_is) (ap (λ (b : ℕ). b == 1) bit ∙ sym (get_or-flags_of s.len s.bits.items c.args.place here))
