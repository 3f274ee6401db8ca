use Rattle.std.proofs.Common.{◌≡◌, ◌≤◌, vec_len, vec_capacity}
use Rattle.nv_alloc.specs.Places.{first_bits}
use Rattle.nv_alloc.proofs.places.first_bits.Given as goal

abbrev pub invariant-loop-word : goal.invariant-loop-word
invariant-loop-word l = record {
  items : l.words.items ≡ first_bits l.count l.word;
  len : vec_len l.words ≡ l.word;
  capacity : l.len ≤ vec_capacity l.words;
}
