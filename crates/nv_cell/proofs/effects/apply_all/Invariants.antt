use Rattle.std.proofs.Common.{◌≡◌, ℕ, ◌+◌, ◌≤◌, ◌&&◌, not, nat_lt, if◌then◌else◌, take, drop}
use Rattle.std.specs.List.{sum_by}
use Rattle.std.specs.Prelude.{vec_len, vec_capacity}
use Rattle.nv_entry.specs.Covered.{part_total, is_covered}
use Rattle.nv_entry.specs.Keys.{Key}
use Rattle.nv_entry.specs.Refs.{scan_ref}
use Rattle.nv_nindex.specs.NameIndex.{HaveSameBindings}
use Rattle.nv_cell.specs.Effects.{BindNone, NamesReady, items_of}
use Rattle.nv_cell.specs.Index.{bindings_of, ref_of}
use Rattle.nv_cell.specs.Numbers.{numbers_in, times}
use Rattle.nv_cell.specs.Weights.{page_runs_needed, weights_in}
use Rattle.nv_cell.proofs.effects.apply_all.Given as goal

abbrev pub invariant-loop-t : goal.invariant-loop-t
invariant-loop-t l = record {
  pages : sum_by page_runs_needed (items_of (drop l.t l.chain.state.entries)) ≤ l.index.pages.room;
  names : NamesReady (items_of (drop l.t l.chain.state.entries)) l.index.names;
  room : l.fn.index.pages.room + sum_by page_runs_needed (items_of (drop l.t l.chain.state.entries))
      ≤ l.index.pages.room + sum_by page_runs_needed (items_of (drop l.tail l.chain.state.entries));
  reserved : BindNone (items_of (drop l.tail l.chain.state.entries))
      → BindNone (items_of (drop l.t l.chain.state.entries)) × (l.index.names.reserved ≡ l.fn.index.names.reserved);
  scan : (key : Key) → ref_of l.index key ≡ scan_ref l.block (take l.t l.chain.state.entries) key;
  bound : HaveSameBindings (bindings_of (take l.t l.chain.state.entries)) l.index.names.names;
  capacity : vec_capacity l.killed ≡ vec_capacity l.fn.killed;
  len : vec_len l.killed + weights_in l.block (take l.t l.chain.state.entries) (items_of (drop l.t l.chain.state.entries))
      ≤ vec_len l.fn.killed + weights_in l.block (take l.tail l.chain.state.entries) (items_of (drop l.tail l.chain.state.entries));
  killed : (n : ℕ) → times n (numbers_in l.killed.items) ≡ times n (numbers_in l.fn.killed.items) +
      (if (nat_lt n (part_total l.chain.state.entries) && is_covered l.block (take l.t l.chain.state.entries) n)
      && not (is_covered l.block (take l.tail l.chain.state.entries) n) then 1 else 0);
}
