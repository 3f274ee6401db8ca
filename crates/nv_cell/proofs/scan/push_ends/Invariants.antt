use Rattle.std.proofs.Common.{◌≡◌, ℕ, ◌+◌, ◌<◌, length}
use Rattle.std.specs.Prelude.{vec_capacity}
use Rattle.nv_cell.specs.Numbers.{part_base}
use Rattle.nv_cell.specs.Tallies.{end_at}
use Rattle.nv_cell.proofs.scan.push_ends.Given as goal

abbrev pub invariant-loop-t : goal.invariant-loop-t
invariant-loop-t l = record {
  end : l.end ≡ part_base l.chain.state.entries l.t;
  len : length l.ends.items ≡ l.t;
  ended : (i : ℕ) → i < l.t → end_at l.ends.items i ≡ part_base l.chain.state.entries (i + 1);
  capacity : vec_capacity l.ends ≡ vec_capacity l.fn.ends;
}
