use Rattle.std.proofs.Common.{◌≡◌, ◌+◌, ◌-◌, arith, sym, ◌∙◌, length}
use Rattle.std.proofs.lemmas.Simd.{pick_l-range_with_len}
use Rattle.nv_parts.proofs.text.copy.Goals as goal

pub returns : goal.returns
returns c =
    let count : (c.args.at + length c.args.part.now) - c.args.at ≡ length c.args.part.now = omega arith in
    c.copy_from_slice.ensures.after
    ∙ rw count
    (sym (pick_l-range_with_len 0 c.args.text.now c.args.at (length c.args.part.now) (omega (
      arith,
      c.if-count-at.false,
      c.if-count-at-2.false,
    ))))
