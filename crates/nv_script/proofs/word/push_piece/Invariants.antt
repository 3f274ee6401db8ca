use Rattle.std.proofs.Common.{◌≡◌, ◌+◌, ◌*◌, ◌≤◌, ◌++◌, length, drop}
use Rattle.std.specs.Prelude.{vec_len, vec_capacity}
use Rattle.nv_script.specs.Words.{escaped}
use Rattle.nv_script.proofs.word.push_piece.Given as goal

abbrev pub invariant-loop-byte : goal.invariant-loop-byte
invariant-loop-byte l = record {
  printed : l.out.items ++ escaped (drop l.byte-index l.piece) ≡ l.fn.out.items ++ escaped l.piece;
  room : vec_len l.out + 3 * length (drop l.byte-index l.piece) ≤ vec_capacity l.out;
}
