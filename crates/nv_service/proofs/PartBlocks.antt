-- All blocks of parts: as many as those of the device, where each stands once.
use Rattle.std.proofs.Common.{◌≡◌, ◌∙◌, ◌+◌, ℕ, zero, suc, List, [], ◌∷◌, Option, Some, None, ap, arith, cond, is_some, length, length-append, map, refl, replicate, slice_index_or, subst, sym, true≢false}
use Rattle.std.specs.List.{flat_map}
use Rattle.std.proofs.lemmas.List.{length-map}
use Rattle.std.proofs.lemmas.List.Sums.{sum_by-cons}
use Rattle.nv_alloc.specs.Block.{BlockValue, number_of, numbers_of}
use Rattle.nv_alloc.specs.FreeList.{FreeBlocks}
use Rattle.nv_cell.specs.Cell.{CellState, CellValue, block_total, held_count, of_part, stored_in}
use Rattle.nv_machine.specs.Numbers.{all_blocks, free_of, held_by_actor, used_blocks}
use Rattle.nv_machine.specs.Step.{after}
use Rattle.nv_machine.specs.World as machine
use Rattle.nv_machine.proofs.EveryWorld.{IsWhole, all_whole}
use Rattle.nv_machine.specs.Recorded.{records_after}
use Rattle.nv_core.specs.AtRest.{AreJudged, IsBusy, at_rest, parts_of}
use Rattle.nv_core.specs.Consistent.{IsConsistentWorld}
use Rattle.nv_core.specs.Worlds.{Shows, WorldState}
use Rattle.nv_parts.specs.declared.parts.Parts.{Parts}
use Rattle.nv_parts.proofs.RestingParts.{rest_once}
use Rattle.nv_core.proofs.SpaceLaw.{just_as_many}
use Rattle.nv_sessions.specs.Opened.{blocks_at, cell_blocks, list_blocks}
use Rattle.nv_sessions.specs.Opening.{blocks_in}
use Rattle.nv_sessions.specs.UnlockedParts.{list_told}

-- ---- counted one by one

free_counted : (lists : List FreeBlocks) → length (flat_map free_of lists) ≡ list_blocks lists
free_counted [] = refl
free_counted (list ∷ lists) =
    omega (
      arith,
      free_counted lists,
      length-map list.blocks number_of,
      sum_by-cons list_told list lists,
      length-append (free_of list) (flat_map free_of lists),
    )

parts_counted : (blocks : List (Option BlockValue)) → length (flat_map of_part blocks) ≡ held_count blocks
parts_counted [] = refl
parts_counted (None ∷ blocks) =
    let one : held_count (None ∷ blocks) ≡ 0 + held_count blocks =
    sum_by-cons (λ (b : Option BlockValue). cond (is_some b) 1 0) None blocks in
    omega (arith, one, parts_counted blocks)
parts_counted (Some block ∷ blocks) =
    let one : held_count (Some block ∷ blocks) ≡ 1 + held_count blocks =
    sum_by-cons (λ (b : Option BlockValue). cond (is_some b) 1 0) (Some block) blocks in
    omega (arith, one, parts_counted blocks, length-append (of_part (Some block)) (flat_map of_part blocks))

stored_one : (cell : CellState) → length (stored_in cell) ≡ block_total cell
stored_one cell =
    omega (
      arith,
      length-append (numbers_of cell.chain.blocks) (flat_map of_part cell.blocks),
      length-map cell.chain.blocks number_of,
      parts_counted cell.blocks,
    )

stored_counted : (cells : List CellValue)
    → length (flat_map stored_in (map (λ (c : CellValue). c.state) cells)) ≡ cell_blocks cells
stored_counted [] = refl
stored_counted (cell ∷ cells) =
    omega (
      arith,
      stored_counted cells,
      stored_one cell.state,
      sum_by-cons blocks_at cell cells,
      length-append (stored_in cell.state) (flat_map stored_in (map (λ (c : CellValue). c.state) cells)),
    )

none_held : (many : ℕ) → flat_map held_by_actor (replicate many machine.idle) ≡ []
none_held zero = refl
none_held (suc many) = none_held many

all_counted : (parts : Parts) → length (all_blocks (at_rest parts)) ≡ blocks_in parts
all_counted parts =
    let rest = at_rest parts in
    omega (
      arith,
      free_counted parts.lists,
      stored_counted parts.cells,
      ap (λ (ns : List ℕ). length ns) (none_held parts.geometry.numbers.actors),
      length-append (flat_map free_of parts.lists) (used_blocks rest),
      length-append (flat_map stored_in rest.shared.cells) (flat_map held_by_actor rest.actors),
    )

-- ---- where each stands once

-- parts that were judged have all blocks of their device
pub judged_blocks : (parts : Parts) → AreJudged parts → blocks_in parts ≡ parts.geometry.numbers.blocks
judged_blocks parts judged =
    sym (all_counted parts)
    ∙ just_as_many parts.geometry.numbers.blocks (all_blocks (at_rest parts)) (rest_once parts judged.device.once)

-- what the parts of a world are to its numbers
pub record AreOf (parts : Parts) : Type 0 where
  pub slots : length parts.cells ≡ parts.geometry.numbers.inodes
  pub cpus : length parts.lists ≡ parts.geometry.numbers.cpus
  pub device : blocks_in parts ≡ parts.geometry.numbers.blocks

-- so have those into which a world came apart
pub opened : (w : WorldState) (parts : Parts) → IsConsistentWorld w → parts ≡ parts_of w.shared
    → ((m : machine.World) → Shows w m → m ≡ at_rest parts) → AreOf parts
opened w parts is same rests =
    subst (λ (p : Parts). ((m : machine.World) → Shows w m → m ≡ at_rest p) → AreOf p) (sym same) own rests where
      own : ((m : machine.World) → Shows w m → m ≡ at_rest (parts_of w.shared)) → AreOf (parts_of w.shared)
      own rest =
          let g = w.shared.geometry.numbers in
          let run = is.0 in
          let whole =
          subst (λ (m : machine.World). IsWhole g m (records_after run.start run.events run.records))
          (rest (after run.start run.events) is.2)
          (all_whole g run.start run.records run.events is.1) in
          record {
            slots = sym (length-map w.shared.cells.items (λ (c : CellValue). c.state)) ∙ whole.pooled.slots;
            cpus = whole.numbers.lists.cpus;
            device = sym (all_counted (parts_of w.shared))
                ∙ just_as_many g.blocks (all_blocks (at_rest (parts_of w.shared))) whole.numbers.once;
          }

-- ---- calls

-- nobody has a call in a world at rest
pub none_busy : (parts : Parts) → IsBusy (at_rest parts) → ⊥
none_busy parts busy =
    true≢false (sym busy.1 ∙ ap (λ (a : machine.Actor). is_some a.running) (all_idle parts.geometry.numbers.actors busy.0)) where
      all_idle : (many actor : ℕ) → slice_index_or (replicate many machine.idle) actor machine.idle ≡ machine.idle
      all_idle zero actor = refl
      all_idle (suc many) zero = refl
      all_idle (suc many) (suc actor) = all_idle many actor
