use Rattle.std.proofs.Common.{◌/◌, ◌%◌, ◌∙◌, w64, arith}
use Rattle.std.proofs.lemmas.List.{get_or_default}
use Rattle.std.proofs.lemmas.Nat.Bits.{bit_at_set_same, bit_at_set_other, bit_at_clear_same, bit_at_clear_other}
use Rattle.nv_alloc.proofs.WordBits.{bit_written}
use Rattle.nv_alloc.proofs.places.write_bit.Goals as goal

pub returns-then-value : goal.returns-then-value
returns-then-value c =
    let words = c.args.words.now.items in
    let at = c.args.at in
    let read = c.index-word.ensures ∙ get_or_default words (at / 64) c.index-word.result.now 0 c.requires in
    rw (c.if-value.true, read) (bit_written words at _ 1 c.requires (bit_at_set_same w64 _ (at % 64) (omega arith))
    (λ i below differs. bit_at_set_other w64 _ (at % 64) (omega arith) i differs))

pub returns-else-value : goal.returns-else-value
returns-else-value c =
    let words = c.args.words.now.items in
    let at = c.args.at in
    let read = c.index-word.ensures ∙ get_or_default words (at / 64) c.index-word.result.now 0 c.requires in
    rw (c.if-value.false, read) (bit_written words at _ 0 c.requires (bit_at_clear_same w64 _ (at % 64) (omega arith))
    (λ i below differs. bit_at_clear_other w64 _ (at % 64) (omega arith) i below differs))
