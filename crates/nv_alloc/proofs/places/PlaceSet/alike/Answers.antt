use Rattle.std.proofs.Common.{◌≡◌, ◌≤◌, ◌*◌, Bool, true, false, ℕ, arith, length}
use Rattle.nv_alloc.specs.Places.{bit}
use Rattle.nv_alloc.proofs.WordBits.{all_alike, set_first}
use Rattle.nv_alloc.proofs.places.PlaceSet.alike.Goals as goal

within : (len count : ℕ) (full : Bool) → count ≡ len * bit full → count ≤ len
within len count true e = omega (arith, e)
within len count false e = omega (arith, e)

pub invariant_of-result : goal.invariant_of-result
invariant_of-result c =
    let low : c.len.result ≡ length c.in_ok-bits.bits.items = omega arith in
    let mid : c.len-2.result ≡ length c.in_ok-words.words.items = omega arith in
    set_first c.args.len c.args.count c.in_ok-bits.bits.items c.in_ok-words.words.items c.in_ok-groups.groups.items (omega arith)
    (within c.args.len c.args.count c.args.full c.requires)
    c.in_ok-bits.ensures.bits
    (rw (c.word_count-marked.ensures, low) at c.in_ok-words.ensures.bits)
    (rw (c.word_count.ensures, c.word_count-marked.ensures, mid) at c.in_ok-groups.ensures.bits)

pub returns : goal.returns
returns c = all_alike c.args.len c.args.count c.in_ok-bits.bits.items c.args.full c.requires c.in_ok-bits.ensures.bits
