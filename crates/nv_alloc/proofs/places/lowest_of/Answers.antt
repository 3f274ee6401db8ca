use Rattle.std.proofs.Common.{arith}
use Rattle.nv_alloc.proofs.WordBits.{below_mark, first_is_lowest, none_is_lowest, within_words}
use Rattle.nv_alloc.proofs.places.lowest_of.Goals as goal

pub returns-in_err-group : goal.returns-in_err-group
returns-in_err-group c = rw c.from_residual.ensures
    (none_is_lowest c.args.len c.args.bits.now c.args.words.now c.args.groups.now c.requires c.in_err-group.ensures.none)

pub first_in-outer-requires : goal.first_in-outer-requires
first_in-outer-requires c =
    let first = c.in_ok-group.ensures.some in
    record { first = first; small = omega (arith, within_words c.args.groups.now c.in_ok-group.group first.some) }

pub first_in-word-requires : goal.first_in-word-requires
first_in-word-requires c =
    let first = below_mark c.args.groups.now c.args.words.now c.first_in-outer.result c.requires.groups_marked c.first_in-outer.ensures in
    record { first = first; small = omega (arith, within_words c.args.words.now c.first_in-outer.result first.some) }

pub first_in-bit-requires : goal.first_in-bit-requires
first_in-bit-requires c =
    let first = below_mark c.args.words.now c.args.bits.now c.first_in-word.result c.requires.words_marked c.first_in-word.ensures in
    record { first = first; small = omega (arith, within_words c.args.bits.now c.first_in-word.result first.some) }

pub returns : goal.returns
returns c = first_is_lowest _ _ _ _ _ c.requires c.first_in-bit.ensures
