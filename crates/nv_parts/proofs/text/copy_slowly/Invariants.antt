use Rattle.std.proofs.Common.{◌≡◌, length, map, take, slice_index_or}
use Rattle.std.specs.List.{range_with_len}
use Rattle.nv_parts.proofs.text.copy_slowly.Given as goal

abbrev pub invariant-loop-i : goal.invariant-loop-i
invariant-loop-i l = record {
  count : length l.part ≡ length l.initial.part;
  done : take l.i l.part ≡ map (λ k. slice_index_or l.fn.text k 0) (range_with_len l.fn.at l.i);
}
