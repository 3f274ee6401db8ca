use Rattle.std.proofs.Common.{◌+◌, arith, refl, sym, ◌∙◌, slice_index_or}
use Rattle.std.proofs.lemmas.List.{length-set, take_more_set}
use Rattle.std.proofs.lemmas.List.FromFn.{map-range_with_len_more}
use Rattle.nv_parts.proofs.text.copy_slowly.Goals as goal

pub loop-i-preserved : goal.loop-i-preserved
loop-i-preserved c = record {
  count = length-set c.loop-i.part c.loop-i.i c.byte_behind.result ∙ c.loop-i.invariant.count;
  done =
      take_more_set c.loop-i.part c.loop-i.i c.byte_behind.result (omega (arith, c.loop-i-test.true, c.loop-i.invariant.count))
      ∙ rw (c.loop-i.invariant.done, c.byte_behind.ensures)
      (sym (map-range_with_len_more (λ k. slice_index_or c.args.text.now k 0) c.args.at c.loop-i.i (c.args.at + c.loop-i.i) refl));
}
