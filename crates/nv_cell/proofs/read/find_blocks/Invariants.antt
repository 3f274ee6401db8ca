use Rattle.std.proofs.Common.{◌≡◌, ℕ, ◌<◌, None, length, slice_index_or}
use Rattle.std.specs.Prelude.{option_and_then}
use Rattle.std.specs.Option.{option_copied}
use Rattle.nv_cell.proofs.read.find_blocks.Given as goal

abbrev pub invariant-loop-k : goal.invariant-loop-k
invariant-loop-k l = record {
  len : length l.blocks ≡ 16;
  found : (k : ℕ) → k < l.k → option_copied (slice_index_or l.blocks k None)
      ≡ option_and_then (λ n. slice_index_or l.slots n None) (slice_index_or l.numbers k None);
}
