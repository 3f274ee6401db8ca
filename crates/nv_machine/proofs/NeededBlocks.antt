-- Where no call runs and nothing is deferred, the blocks that are used are those that are needed.
use Rattle.std.proofs.Common.{◌≡◌, ℕ, zero, suc, ◌+◌, ◌-◌, ◌<◌, ◌++◌, ◌||◌, ◌∙◌, Bool, true, false, List, [], ◌∷◌, Option, Some, None, ap, append-nil, arith, filter, flat_map, if◌then◌else◌, length, map, refl, slice_get, sym, take}
use Rattle.std.specs.Prelude.{option_to_list}
use Rattle.std.specs.List.{range_with_len}
use Rattle.std.specs.Option.{IsSome}
use Rattle.std.proofs.lemmas.Bool.{false≢true}
use Rattle.nv_alloc.specs.Block.{numbers_of}
use Rattle.nv_alloc.specs.Numbers.{has, unused}
use Rattle.nv_base.specs.Homes.{home_start}
use Rattle.nv_base.specs.declared.geometry.GeometryNumbers.{GeometryNumbers}
use Rattle.nv_book.specs.declared.record.Record.{Record}
use Rattle.nv_calls.specs.Retiring.{name_of}
use Rattle.nv_cell.specs.Cell.{CellState, log_of, page_block}
use Rattle.nv_cell.specs.declared.killed.KilledPart.{KilledPart}
use Rattle.nv_entry.specs.Covered.{part_total}
use Rattle.nv_entry.specs.Held.{Retention, is_needed}
use Rattle.nv_entry.specs.Log.{pairs}
use Rattle.nv_entry.specs.declared.held.Pair.{Pair}
use Rattle.nv_entry.specs.declared.item.Entry.{Entry}
use Rattle.nv_entry.specs.declared.part.PartId.{PartId}
use Rattle.nv_epoch.specs.SnapList.{ids}
use Rattle.nv_machine.specs.Hands.{unpublished_by}
use Rattle.nv_machine.specs.Held.{block_in_use, blocks_in_use, in_use_by, is_of_slot, killed_by_actor, killed_by_call, killed_in, pending_in, picked_by_actor, picked_by_call, retention_at, used_by_logs, used_by_slot}
use Rattle.nv_machine.specs.Needed.{IsAtRest, free_but_needed, is_needed_pair, needed_block, needed_blocks, needed_by_slot, needed_in}
use Rattle.nv_machine.specs.Numbers.{free_of, held_by_actor, held_in}
use Rattle.nv_machine.specs.Starts.{IsStart}
use Rattle.nv_machine.specs.Step.{after}
use Rattle.nv_machine.specs.World.{Event, HandState, Running, World, actor_at, cell_at, list_at}
use Rattle.nv_machine.proofs.EveryWorld.{all_numbers}
use Rattle.nv_machine.proofs.WorldFacts.{idle_nothing, log_in}
use Rattle.nv_machine.proofs.HeldLaw.{scanned_by_logs}
use Rattle.nv_machine.proofs.Pairs.{pair_there}
use Rattle.nv_machine.proofs.PartsFor.{none_of}

-- ---- places one by one

-- two lists of lists that are the same at each place
same_places : (f k : ℕ → List ℕ) (from many : ℕ) → ((i : ℕ) → i < many → f (from + i) ≡ k (from + i))
    → flat_map f (range_with_len from many) ≡ flat_map k (range_with_len from many)
same_places f k from zero same = refl
same_places f k from (suc many) same =
    let here : from + 0 ≡ from = omega arith in
    let later : (i : ℕ) → from + suc i ≡ from + 1 + i = λ i. omega arith in
    let first : f from ≡ k from = ap f (sym here) ∙ same 0 (omega arith) ∙ ap k here in
    let rest : flat_map f (range_with_len (from + 1) many) ≡ flat_map k (range_with_len (from + 1) many) =
    same_places f k (from + 1) many (λ i lt. ap f (sym (later i)) ∙ same (suc i) (omega (arith, lt)) ∙ ap k (later i)) in
    ap (λ (l : List ℕ). l ++ flat_map f (range_with_len (from + 1) many)) first
    ∙ ap (λ (l : List ℕ). k from ++ l) rest

or_no : (b : Bool) → (b || false) ≡ b
or_no true = refl
or_no false = refl

-- what keeps the pairs of a slot where nothing is pending and nothing is killed
abbrev kept_by_living : World → ℕ → Retention
kept_by_living w ino = record { block = (cell_at w.shared ino).block; snapshots = ids w.shared.book.snaps; pending = [] }

-- ---- one world

module _ (g : GeometryNumbers) (start : World) (records : List Record) (events : List Event) (is_start : IsStart g start records)
    (at_rest : IsAtRest (after start events))
    (none : (after start events).shared.book.deferred ≡ []) where
  abbrev w : World
  w = after start events

  picked_none : flat_map picked_by_actor w.actors ≡ []
  picked_none = none_of picked_by_actor w.actors (λ b. ap (λ (o : Option Running). picked_by_call o) (at_rest b))

  pending_none : pending_in w ≡ []
  pending_none = ap (λ (ds : List Record). ds ++ flat_map picked_by_actor w.actors) none ∙ picked_none

  killed_none : (ino : ℕ) → killed_in w ino ≡ []
  killed_none ino =
      none_of (killed_by_actor ino) w.actors
      (λ b. ap (λ (o : Option Running). killed_by_call o (actor_at w b).hand ino) (at_rest b))

  living_keep : (ino : ℕ) → retention_at w ino ≡ kept_by_living w ino
  living_keep ino =
      let names : List PartId = map (λ (k : KilledPart). k.part) (killed_in w ino) in
      ap (λ (ds : List Record). kept_with (map name_of (filter (is_of_slot ino) ds) ++ names)) pending_none
      ∙ ap (λ (killed : List KilledPart). kept_with (map (λ (k : KilledPart). k.part) killed)) (killed_none ino) where
        kept_with : List PartId → Retention
        kept_with names = record { block = (cell_at w.shared ino).block; snapshots = ids w.shared.book.snaps; pending = names }

  hands_none : flat_map held_by_actor w.actors ≡ []
  hands_none =
      none_of held_by_actor w.actors
      (λ b. ap (λ (h : HandState). held_in h) (idle_nothing g start records events is_start b (at_rest b)).hand)

  -- each log ends at its tail
  whole : (ino : ℕ) → (cell_at w.shared ino).chain.entries ≡ log_of (cell_at w.shared ino)
  whole ino =
      let cell : CellState = cell_at w.shared ino in
      let last =
      (all_numbers g start records events is_start).tails ino
      (λ b. ap (λ (o : Option Running). has (unpublished_by o) ino) (at_rest b)) in
      sym (ap (λ (n : ℕ). take n cell.chain.entries) last ∙ take_whole cell.chain.entries) where
        take_whole : (es : List Entry) → take (length es) es ≡ es
        take_whole [] = refl
        take_whole (e ∷ es) = ap (λ (l : List Entry). e ∷ l) (take_whole es)

  block_is : (ino n : ℕ) → n < part_total (log_of (cell_at w.shared ino))
      → block_in_use (retention_at w ino) (cell_at w.shared ino) n ≡ needed_block (ids w.shared.book.snaps) (cell_at w.shared ino) n
  block_is ino n lt =
      ap (λ (r : Retention). block_in_use r cell n) (living_keep ino)
      ∙ ap (λ (es : List Entry). if in_use_by (kept_by_living w ino) (slice_get (pairs cell.block (log_of cell)) n)
      then page_block cell.block es n
      else None) (whole ino)
      ∙ ap (λ (b : Bool). if b then page_block cell.block (log_of cell) n else None)
      (used (slice_get (pairs cell.block (log_of cell)) n)
      (pair_there cell.block (log_of cell) n (log_in g start records events ino is_start) lt)) where
        cell : CellState
        cell = cell_at w.shared ino

        used : (o : Option Pair) → IsSome o → in_use_by (kept_by_living w ino) o ≡ is_needed_pair (ids w.shared.book.snaps) o
        used None some = absurd (false≢true some)
        used (Some pair) some = or_no (is_needed (ids w.shared.book.snaps) pair)

  blocks_are : (ino : ℕ)
      → blocks_in_use (retention_at w ino) (cell_at w.shared ino) ≡ needed_blocks (ids w.shared.book.snaps) (cell_at w.shared ino)
  blocks_are ino =
      let cell : CellState = cell_at w.shared ino in
      let one : ℕ → List ℕ = λ n. option_to_list (block_in_use (retention_at w ino) cell n) in
      let other : ℕ → List ℕ = λ n. option_to_list (needed_block (ids w.shared.book.snaps) cell n) in
      ap (λ (es : List Entry). flat_map one (range_with_len 0 (part_total es))) (whole ino)
      ∙ same_places one other 0 (part_total (log_of cell))
      (λ n lt. let low : 0 + n < part_total (log_of cell) = omega (arith, lt) in
      ap (λ (o : Option ℕ). option_to_list o) (block_is ino (0 + n) low))

  used_are_needed : used_by_logs w ≡ needed_in w
  used_are_needed =
      ap (λ (held : List ℕ). flat_map (used_by_slot w) (range_with_len 0 (length w.shared.cells)) ++ held) hands_none
      ∙ append-nil (flat_map (used_by_slot w) (range_with_len 0 (length w.shared.cells)))
      ∙ same_places (used_by_slot w) (needed_by_slot w) 0 (length w.shared.cells)
      (λ i lt. ap (λ (l : List ℕ). numbers_of (cell_at w.shared (0 + i)).chain.blocks ++ l) (blocks_are (0 + i)))

  -- ---- the law

  pub needed_alone : (cpu : ℕ) → cpu < g.cpus → free_of (list_at w.shared cpu) ≡ free_but_needed g w cpu
  needed_alone cpu inside =
      scanned_by_logs g start records events cpu is_start inside
      ∙ ap (λ (used : List ℕ). unused (has used) (home_start g.blocks g.cpus cpu)
      (home_start g.blocks g.cpus (cpu + 1) - home_start g.blocks g.cpus cpu)) used_are_needed
