-- Each free list is what logs, chains and hands leave.
use Rattle.nv_book.specs.declared.record.Record.{Record}
use Rattle.std.proofs.Common.{◌≡◌, ℕ, suc, ◌+◌, ◌-◌, ◌<◌, ◌++◌, ◌∙◌, Bool, true, false, List, [], ◌∷◌, Option, Some, None, ap, arith, flat_map, if◌then◌else◌, inl, inr, length, refl, slice_get, slice_index_or, sym}
use Rattle.std.specs.Prelude.{option_to_list}
use Rattle.std.specs.List.{range_with_len}
use Rattle.std.specs.Option.{option_map}
use Rattle.std.proofs.lemmas.Bool.{cases_lt}
use Rattle.std.proofs.lemmas.List.{get_or_past}
use Rattle.nv_alloc.specs.Block.{BlockValue, number_of, numbers_of}
use Rattle.nv_alloc.specs.Numbers.{has, unused}
use Rattle.nv_base.specs.Homes.{home_start}
use Rattle.nv_base.specs.declared.geometry.GeometryNumbers.{GeometryNumbers}
use Rattle.nv_cell.specs.Cell.{CellState, log_of, of_part, page_block, stored_in}
use Rattle.nv_entry.specs.Covered.{part_total}
use Rattle.nv_entry.specs.Held.{Retention, keeps}
use Rattle.nv_entry.specs.Log.{pairs}
use Rattle.nv_entry.specs.declared.held.Pair.{Pair}
use Rattle.nv_machine.specs.Held.{block_in_use, blocks_in_use, free_by_logs, in_use_by, is_in_use, retention_at, used_by_logs, used_by_slot}
use Rattle.nv_machine.specs.Numbers.{free_of, held_by_actor, used_blocks}
use Rattle.nv_machine.specs.Starts.{IsStart}
use Rattle.nv_machine.specs.Step.{after}
use Rattle.nv_machine.specs.World.{Event, World, cell_at, list_at, no_cell}
use Rattle.nv_machine.proofs.EveryWorld.{all_parts}
use Rattle.nv_machine.proofs.WorldFacts.{scanned}
use Rattle.nv_machine.proofs.HeldMarks.{used_there}

-- a list that is gone over by its places
by_place : {X : Type 0} (f : X → List ℕ) (g : ℕ → List ℕ) (d : X) (xs : List X) (from : ℕ)
    → ((i : ℕ) → i < length xs → f (slice_index_or xs i d) ≡ g (from + i))
    → flat_map f xs ≡ flat_map g (range_with_len from (length xs))
by_place f g d [] from same = refl
by_place f g d (x ∷ xs) from same =
    let here : from + 0 ≡ from = omega arith in
    let later : (i : ℕ) → from + suc i ≡ from + 1 + i = λ i. omega arith in
    ap (λ (l : List ℕ). l ++ flat_map f xs) (same 0 (omega arith) ∙ ap g here)
    ∙ ap (λ (l : List ℕ). g from ++ l)
    (by_place f g d xs (from + 1) (λ i lt. same (suc i) (omega (arith, lt)) ∙ ap g (later i)))

of_block : (o : Option BlockValue) → of_part o ≡ option_to_list (option_map number_of o)
of_block None = refl
of_block (Some b) = refl

-- a cell has the blocks of its parts in use, and no other
record HasInUse (r : Retention) (cell : CellState) : Type 0 where
  blocks : (n : ℕ) → option_map number_of (slice_index_or cell.blocks n None) ≡ block_in_use r cell n
  len : length cell.blocks ≡ part_total cell.chain.entries

cell_blocks : (r : Retention) (cell : CellState) → HasInUse r cell → flat_map of_part cell.blocks ≡ blocks_in_use r cell
cell_blocks r cell h =
    by_place of_part (λ n. option_to_list (block_in_use r cell n)) None cell.blocks 0
    (λ i lt. of_block (slice_index_or cell.blocks i None) ∙ ap (λ (o : Option ℕ). option_to_list o) (h.blocks i)
    ∙ ap (λ (n : ℕ). option_to_list (block_in_use r cell n)) (zeroth i))
    ∙ ap (λ (k : ℕ). flat_map (λ n. option_to_list (block_in_use r cell n)) (range_with_len 0 k)) h.len where
      zeroth : (i : ℕ) → i ≡ 0 + i
      zeroth i = omega arith

-- ---- every world

either_way : (b : Bool) (o : Option ℕ) → o ≡ (if b then o else o)
either_way true o = refl
either_way false o = refl

pub blocks_told : (g : GeometryNumbers) (start : World) (records : List Record) (events : List Event) (ino n : ℕ) → IsStart g start records
    → option_map number_of (slice_index_or (cell_at (after start events).shared ino).blocks n None)
    ≡ block_in_use (retention_at (after start events) ino) (cell_at (after start events).shared ino) n
blocks_told g start records events ino n is_start = elim (cases_lt ino (length w.shared.cells)) [
  | inl lt ↦
      (all_parts g start records events is_start ino lt).blocks.numbers n
      ∙ ap (λ (b : Bool). if b then page_block cell.block cell.chain.entries n else None)
      (sym (used_there g start records events ino n is_start))
  | inr ge ↦
      let none : cell ≡ no_cell = get_or_past w.shared.cells ino no_cell ge in
      ap (λ (c : CellState). option_map number_of (slice_index_or c.blocks n None)) none
      ∙ either_way (is_in_use (retention_at w ino) no_cell n) None
      ∙ ap (λ (c : CellState). block_in_use (retention_at w ino) c n) (sym none)
] where
  w : World
  w = after start events

  cell : CellState
  cell = cell_at w.shared ino

used_are : (g : GeometryNumbers) (start : World) (records : List Record) (events : List Event) → IsStart g start records
    → used_blocks (after start events) ≡ used_by_logs (after start events)
used_are g start records events is_start =
    ap (λ (l : List ℕ). l ++ flat_map held_by_actor w.actors)
    (by_place stored_in (used_by_slot w) no_cell w.shared.cells 0
    (λ ino lt. ap (λ (l : List ℕ). numbers_of (cell_at w.shared ino).chain.blocks ++ l)
    (cell_blocks (retention_at w ino) (cell_at w.shared ino) (record {
      blocks = λ n. blocks_told g start records events ino n is_start;
      len = (all_parts g start records events is_start ino lt).blocks.len;
    })) ∙ ap (used_by_slot w) (zeroth ino))) where
      w : World
      w = after start events

      zeroth : (i : ℕ) → i ≡ 0 + i
      zeroth i = omega arith

-- ---- the law

pub scanned_by_logs : (g : GeometryNumbers) (start : World) (records : List Record) (events : List Event) (cpu : ℕ)
    → IsStart g start records → cpu < g.cpus
    → free_of (list_at (after start events).shared cpu) ≡ free_by_logs g (after start events) cpu
scanned_by_logs g start records events cpu is_start inside =
    scanned g start records events cpu is_start inside
    ∙ ap (λ (used : List ℕ). unused (has used) (home_start g.blocks g.cpus cpu)
    (home_start g.blocks g.cpus (cpu + 1) - home_start g.blocks g.cpus cpu))
    (used_are g start records events is_start)

pub pairs_told : (g : GeometryNumbers) (start : World) (records : List Record) (events : List Event) (ino n : ℕ) (pair : Pair)
    → IsStart g start records
    → slice_get (pairs (cell_at (after start events).shared ino).block (log_of (cell_at (after start events).shared ino))) n
    ≡ Some pair
    → is_in_use (retention_at (after start events) ino) (cell_at (after start events).shared ino) n
    ≡ keeps (retention_at (after start events) ino) pair
pairs_told g start records events ino n pair is_start got = ap (in_use_by (retention_at (after start events) ino)) got
