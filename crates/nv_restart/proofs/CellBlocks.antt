-- The blocks that mounted cells have, among those of the image.
use Rattle.std.proofs.Common.{◌≡◌, ℕ, zero, suc, ◌+◌, ◌<◌, ◌≤◌, ◌==◌, ◌||◌, ◌++◌, Bool, true, false, cond, List, [], ◌∷◌, Some, ap, arith, length, map, refl, replicate, subst, sym, take}
use Rattle.std.specs.Prelude.{slice_index_or, unwrap_or}
use Rattle.std.specs.List.{flat_map, range_with_len}
use Rattle.std.proofs.lemmas.Bool.{eq-eqb}
use Rattle.std.proofs.lemmas.List.{length-replicate}
use Rattle.std.proofs.lemmas.Option.{same_Some}
use Rattle.nv_alloc.specs.Block.{AreSized, BlockValue, block_by, numbers_of, zero_block}
use Rattle.nv_alloc.specs.Numbers.{has, times}
use Rattle.nv_alloc.proofs.Lists.{times-append, times-cons}
use Rattle.nv_audit.specs.Image.{SlotImageValue, no_slot, slot_blocks, slot_numbers}
use Rattle.nv_cell.specs.Cell.{CellState, stored_in}
use Rattle.nv_machine.specs.Numbers.{held_by_actor}
use Rattle.nv_machine.specs.World.{idle}
use Rattle.nv_machine.proofs.EachElement.{all_append}

pub fewer_taken : (k t : ℕ) (blocks : List BlockValue)
    → times k (numbers_of (take t blocks)) ≤ times k (numbers_of blocks)
fewer_taken k zero blocks = omega arith
fewer_taken k (suc t) [] = omega arith
fewer_taken k (suc t) (b ∷ blocks) =
    omega (
      arith,
      fewer_taken k t blocks,
      times-cons k b.number (numbers_of (take t blocks)),
      times-cons k b.number (numbers_of blocks),
    )

pub numbers-append : (xs ys : List BlockValue)
    → numbers_of (xs ++ ys) ≡ numbers_of xs ++ numbers_of ys
numbers-append [] ys = refl
numbers-append (x ∷ xs) ys = ap (λ (ns : List ℕ). x.number ∷ ns) (numbers-append xs ys)

pub found_there : (blocks : List BlockValue) (number : ℕ) (b : BlockValue)
    → block_by blocks number ≡ Some b → has (numbers_of blocks) b.number ≡ true
found_there [] number b e = cc
found_there (c ∷ blocks) number b e = go (c.number == number) e (found_there blocks number b) where
  or_true : (x : Bool) → (x || true) ≡ true
  or_true true = refl
  or_true false = refl

  go : (x : Bool) → cond x (Some c) (block_by blocks number) ≡ Some b
      → (block_by blocks number ≡ Some b → has (numbers_of blocks) b.number ≡ true)
      → ((c.number == b.number) || has (numbers_of blocks) b.number) ≡ true
  go true e more =
      (let same =
      eq-eqb c.number b.number (ap (λ (x : BlockValue). x.number) (same_Some c b e)) in rw same
      refl)
  go false e more = rw (more e) (or_true (c.number == b.number))

pub fewer_slots : (k : ℕ) (f : ℕ → List ℕ) (slots : List SlotImageValue) (a : ℕ)
    → ((i : ℕ) → i < length slots
    → times k (f (a + i)) ≤ times k (slot_numbers (slice_index_or slots i no_slot)))
    → times k (flat_map f (range_with_len a (length slots))) ≤ times k (flat_map slot_numbers slots)
fewer_slots k f [] a each = omega arith
fewer_slots k f (slot ∷ slots) a each =
    let first = each 0 (omega arith) in
    let here : times k (f a) ≡ times k (f (a + 0)) =
    (let e : a ≡ a + 0 = omega arith in ap (λ (m : ℕ). times k (f m)) e) in
    let rest = fewer_slots k f slots (a + 1) (λ i lt.
    let e : a + 1 + i ≡ a + suc i = omega arith in
    subst (λ (m : ℕ). times k (f m) ≤ times k (slot_numbers (slice_index_or slots i no_slot)))
    (sym e) (each (suc i) (omega (arith, lt)))) in
    omega (
      arith,
      first,
      here,
      rest,
      times-append k (f a) (flat_map f (range_with_len (a + 1) (length slots))),
      times-append k (slot_numbers slot) (flat_map slot_numbers slots),
    )

pub over_map : (f : ℕ → CellState) (ns : List ℕ)
    → flat_map stored_in (map f ns) ≡ flat_map (λ n. stored_in (f n)) ns
over_map f [] = refl
over_map f (n ∷ ns) = ap (λ (l : List ℕ). stored_in (f n) ++ l) (over_map f ns)

pub none_held : (k : ℕ) → flat_map held_by_actor (replicate k idle) ≡ []
none_held zero = refl
none_held (suc k) = none_held k

pub sized_append : (size : ℕ) (xs ys : List BlockValue) → AreSized size xs → AreSized size ys
    → AreSized size (xs ++ ys)
sized_append size xs ys a b = all_append (λ (x : BlockValue). length x.bytes ≡ size) xs ys a b

pub sized_slots : (size : ℕ) (slots : List SlotImageValue)
    → ((i : ℕ) → i < length slots → AreSized size (slot_blocks (slice_index_or slots i no_slot)))
    → AreSized size (flat_map slot_blocks slots)
sized_slots size [] each = tt
sized_slots size (slot ∷ slots) each =
    sized_append size (slot_blocks slot) (flat_map slot_blocks slots) (each 0 (omega arith))
    (sized_slots size slots (λ i lt. each (suc i) (omega (arith, lt))))

pub sized_or : (size number : ℕ) (blocks : List BlockValue) → AreSized size blocks
    → length (unwrap_or (block_by blocks number) (zero_block size number)).bytes ≡ size
sized_or size number [] all = length-replicate size 0
sized_or size number (b ∷ blocks) all =
    go (b.number == number) (sized_or size number blocks all.1) where
      go : (c : Bool)
          → length (unwrap_or (block_by blocks number) (zero_block size number)).bytes ≡ size
          → length (unwrap_or (cond c (Some b) (block_by blocks number))
          (zero_block size number)).bytes
          ≡ size
      go true more = all.0
      go false more = more
