-- No block stands twice in the image of a world.
use Rattle.std.proofs.Common.{◌≡◌, ℕ, zero, suc, ◌<◌, ◌≤◌, ◌∙◌, inl, inr, Bool, true, false, cond, if◌then◌else◌, nat_lt, List, [], ◌∷◌, Option, Some, None, ap, arith, map, refl, subst, sym, take}
use Rattle.std.specs.Prelude.{option_to_list}
use Rattle.std.specs.List.{flat_map}
use Rattle.std.proofs.lemmas.Bool.{cases_lt, le-ltb}
use Rattle.nv_alloc.proofs.Lists.{times-append, times-cons}
use Rattle.nv_alloc.specs.Block.{AreSized, BlockValue, numbers_of}
use Rattle.nv_alloc.specs.Numbers.{IsEachOnce, times}
use Rattle.nv_audit.specs.Faults.{AreBlocksGood}
use Rattle.nv_audit.specs.Image.{image_numbers, slot_numbers}
use Rattle.nv_base.specs.declared.geometry.GeometryNumbers.{GeometryNumbers}
use Rattle.nv_cell.specs.Cell.{AreSlotsSized, CellState, log_of, of_part, stored_in}
use Rattle.nv_entry.specs.Covered.{part_total}
use Rattle.nv_machine.specs.Numbers.{all_blocks, free_of, held_by_actor, used_blocks}
use Rattle.nv_machine.specs.World.{World}
use Rattle.nv_restart.proofs.CellBlocks.{numbers-append}
use Rattle.nv_restart.specs.Restarted.{data_blocks, image_of, slot_image}

-- the blocks of some parts are fewer than those of all
fewer_parts : (k t : ℕ) (slots : List (Option BlockValue))
    → times k (numbers_of (flat_map option_to_list (take t slots)))
    ≤ times k (flat_map of_part slots)
fewer_parts k zero slots = omega arith
fewer_parts k (suc t) [] = omega arith
fewer_parts k (suc t) (None ∷ slots) = fewer_parts k t slots
fewer_parts k (suc t) (Some b ∷ slots) =
    omega (
      arith,
      fewer_parts k t slots,
      times-cons k b.number (numbers_of (flat_map option_to_list (take t slots))),
      times-cons k b.number (flat_map of_part slots),
    )

fewer_stored : (k : ℕ) (cell : CellState)
    → times k (slot_numbers (slot_image cell)) ≤ times k (stored_in cell)
fewer_stored k cell =
    omega (
      arith,
      ap (times k) (numbers-append cell.chain.blocks (data_blocks cell)),
      times-append k (numbers_of cell.chain.blocks) (numbers_of (data_blocks cell)),
      times-append k (numbers_of cell.chain.blocks) (flat_map of_part cell.blocks),
      fewer_parts k (part_total (log_of cell)) cell.blocks,
    )

fewer_cells : (k : ℕ) (cells : List CellState)
    → times k (flat_map slot_numbers (map slot_image cells)) ≤ times k (flat_map stored_in cells)
fewer_cells k [] = omega arith
fewer_cells k (cell ∷ cells) =
    omega (
      arith,
      fewer_cells k cells,
      fewer_stored k cell,
      times-append k (slot_numbers (slot_image cell))
          (flat_map slot_numbers (map slot_image cells)),
      times-append k (stored_in cell) (flat_map stored_in cells),
    )

fewer_all : (k : ℕ) (w : World) → times k (image_numbers (image_of w)) ≤ times k (all_blocks w)
fewer_all k w =
    omega (
      arith,
      fewer_cells k w.shared.cells,
      times-append k (flat_map stored_in w.shared.cells) (flat_map held_by_actor w.actors),
      times-append k (flat_map free_of w.shared.lists) (used_blocks w),
    )

-- NO FAULT `block`
pub blocks_good : (g : GeometryNumbers) (w : World) → w.numbers ≡ g
    → IsEachOnce g.blocks (all_blocks w) → AreBlocksGood (image_of w)
blocks_good g w same once = record {
  within = λ n some. subst (λ (x : GeometryNumbers). n < x.blocks) (sym same)
      (small n (omega (arith, some, fewer_all n w)));
  once = λ n. omega (arith, most n, fewer_all n w);
} where
  most : (n : ℕ) → times n (all_blocks w) ≤ 1
  most n = go (nat_lt n g.blocks) (once n) where
    go : (b : Bool) → times n (all_blocks w) ≡ (if b then 1 else 0)
        → times n (all_blocks w) ≤ 1
    go true e = omega (arith, e)
    go false e = omega (arith, e)

  small : (n : ℕ) → 1 ≤ times n (all_blocks w) → n < g.blocks
  small n some = elim (cases_lt n g.blocks) [
    | inl lt ↦ lt
    | inr past ↦ absurd
        (let none = once n ∙ ap (λ (b : Bool). cond b 1 0) (le-ltb n g.blocks past) in
        omega (arith, none, some))
  ]

-- the blocks that are there have the size of those of all parts
pub sized_data : (size : ℕ) (slots : List (Option BlockValue)) → AreSlotsSized size slots → (t : ℕ)
    → AreSized size (flat_map option_to_list (take t slots))
sized_data size slots sized zero = tt
sized_data size [] sized (suc t) = tt
sized_data size (None ∷ slots) sized (suc t) = sized_data size slots (λ n b e. sized (suc n) b e) t
sized_data size (Some b ∷ slots) sized (suc t) =
    (sized 0 b refl, sized_data size slots (λ n c e. sized (suc n) c e) t)
