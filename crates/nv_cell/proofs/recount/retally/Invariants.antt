use Rattle.std.proofs.Common.{◌≡◌, ℕ, ◌+◌, ◌<◌, length}
use Rattle.std.specs.Prelude.{vec_capacity}
use Rattle.nv_cell.specs.Marks.{is_current, is_there}
use Rattle.nv_cell.specs.Numbers.{part_base}
use Rattle.nv_cell.specs.Slots.{slot_base}
use Rattle.nv_cell.specs.Tallies.{count_in, end_at, tally_at}
use Rattle.nv_cell.proofs.recount.retally.Given as goal

abbrev pub invariant-loop-t : goal.invariant-loop-t
invariant-loop-t l = record {
  started : l.start ≡ part_base l.chain.state.entries l.t;
  slotted : l.slots_end ≡ slot_base l.chain.state.entries l.t;
  ends_len : length l.ends.items ≡ l.t;
  tallies_len : length l.tallies.items ≡ l.t;
  ended : (i : ℕ) → i < l.t → end_at l.ends.items i ≡ part_base l.chain.state.entries (i + 1);
  current : (i : ℕ) → i < l.t → (tally_at l.tallies.items i).current
      ≡ count_in is_current l.marks (part_base l.chain.state.entries i) (part_base l.chain.state.entries (i + 1));
  there : (i : ℕ) → i < l.t → (tally_at l.tallies.items i).there
      ≡ count_in is_there l.marks (part_base l.chain.state.entries i) (part_base l.chain.state.entries (i + 1));
  slots : (i : ℕ) → i < l.t → (tally_at l.tallies.items i).slots_end ≡ slot_base l.chain.state.entries (i + 1);
  ends_capacity : vec_capacity l.ends ≡ vec_capacity l.fn.ends;
  tallies_capacity : vec_capacity l.tallies ≡ vec_capacity l.fn.tallies;
}
