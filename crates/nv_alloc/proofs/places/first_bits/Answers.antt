use Rattle.std.proofs.Common.{ℕ, ◌-◌, ◌*◌, ◌^◌, min, arith, sym}
use Rattle.std.proofs.lemmas.List.FromFn.{map-range_with_len_more}
use Rattle.nv_alloc.proofs.places.first_bits.Goals as goal

pub loop-word-preserved : goal.loop-word-preserved
loop-word-preserved c =
    let i = c.loop-word.word in
    let more = map-range_with_len_more (λ (i : ℕ). 2 ^ min 64 (c.args.count - 64 * i) - 1) 0 i i (omega arith) in
    record {
      items = rw (c.push_reserved.ensures.items, c.loop-word.invariant.items, c.first_bits_in.ensures) (sym more);
      len = omega arith;
      capacity = omega arith;
    }
