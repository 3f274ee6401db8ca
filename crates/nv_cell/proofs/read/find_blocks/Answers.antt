use Rattle.std.proofs.Common.{◌≡◌, ◌∙◌, None, arith, refl, ap, inl, inr}
use Rattle.std.specs.Option.{option_copied}
use Rattle.std.proofs.lemmas.Bool.{cases_lt}
use Rattle.std.proofs.lemmas.Grind.{get_or-set_at}
use Rattle.std.proofs.lemmas.List.{get_or-set_other, length-set}
use Rattle.nv_cell.proofs.read.find_blocks.Goals as goal

pub loop-k-preserved : goal.loop-k-preserved
loop-k-preserved c =
    let k = c.loop-k.k in
    record {
      len = omega (arith, c.loop-k.invariant.len, length-set c.loop-k.blocks k c.block_at.result);
      found = λ j lt. elim (cases_lt j k) [
        | inl low ↦
            ap option_copied (get_or-set_other c.loop-k.blocks k j c.block_at.result None (λ q. omega (arith, low, q)))
            ∙ c.loop-k.invariant.found j low
        | inr high ↦
            let at : j ≡ k = omega (arith, lt, high) in
            rw at (ap option_copied
            (get_or-set_at c.loop-k.blocks k k c.block_at.result None refl (omega (arith, c.loop-k.invariant.len, c.loop-k-test.true)))
            ∙ c.block_at.ensures)
      ];
    }
