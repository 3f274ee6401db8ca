-- What holds of the cells, blocks and free lists that a mount makes of an image without a fault.
use Rattle.std.proofs.Common.{◌≡◌, ℕ, ◌+◌, ◌<◌, ◌≤◌, ◌++◌, ◌∙◌, inl, inr, Bool, true, false, cond, nat_lt, List, Some, None, ap, arith, length, refl, subst, sym}
use Rattle.std.specs.Prelude.{if◌then◌else◌, slice_index_or}
use Rattle.std.specs.List.{flat_map, range_with_len}
use Rattle.std.specs.Option.{option_map}
use Rattle.std.proofs.lemmas.Bool.{cases_lt}
use Rattle.std.proofs.lemmas.List.{get_or_past}
use Rattle.std.proofs.lemmas.List.FromFn.{get_or-map-range_with_len}
use Rattle.nv_alloc.specs.Block.{AreSized, BlockValue, block_by, number_of, numbers_of}
use Rattle.nv_alloc.specs.FreeList.{IsHomeList}
use Rattle.nv_alloc.specs.Numbers.{IsEachOnce, has, times}
use Rattle.nv_alloc.proofs.Lists.{times-append}
use Rattle.nv_audit.specs.Faults.{AreOrdered, FitsGeometry, FitsSlot, IsFaultless, IsNeededPage}
use Rattle.nv_audit.specs.Image.{ImageValue, SlotImageValue, image_blocks, image_numbers, no_slot, slot_numbers, slot_of}
use Rattle.nv_audit.specs.Mounted.{cell_of, cell_with, cut_log, free_block, is_over, list_anew, tail_of, used_anew}
use Rattle.nv_base.specs.Limits.{IsWithinLimits}
use Rattle.nv_base.specs.declared.fault.ImageFault.TheVariants as fault
use Rattle.nv_base.specs.declared.geometry.GeometryNumbers.{GeometryNumbers}
use Rattle.nv_cell.specs.Anew.{AreThere}
use Rattle.nv_cell.specs.Cell.{CellState, IsCell, empty_cell, log_of, of_part, page_block, stored_in}
use Rattle.nv_cell.proofs.ValuesNow.{IsLog-take}
use Rattle.nv_entry.specs.Log.{IsLog}
use Rattle.nv_entry.specs.declared.item.Entry.{Entry}
use Rattle.nv_log.specs.Image.{IsPaged}
use Rattle.nv_machine.specs.Kept.{AreApart}
use Rattle.nv_machine.specs.Numbers.{all_blocks, free_of, held_by_actor}
use Rattle.nv_machine.specs.World.{World, cell_at, no_cell, no_list}
use Rattle.nv_restart.proofs.BlocksAnew.{apart_anew, told}
use Rattle.nv_restart.proofs.Cells.{cell_is, empty_is, log_is}
use Rattle.nv_restart.proofs.Slots.{by_cell, cell_past, cell_there}
use Rattle.nv_restart.proofs.FreeLists.{each_once, fewer_parts, its_block, list_home}
use Rattle.nv_restart.specs.Mounted.{mounted}
use Rattle.nv_restart.proofs.NotedTails.{tail_low}
use Rattle.nv_restart.proofs.CellBlocks.{fewer_slots, fewer_taken, found_there, none_held, numbers-append, over_map, sized_append, sized_or, sized_slots}

module _ (image : ImageValue) (limits : IsWithinLimits image.numbers)
    (faultless : IsFaultless image) where
  abbrev pub g : GeometryNumbers
  g = image.numbers

  abbrev pub w : World
  w = mounted image

  pub fits : FitsGeometry image
  fits = faultless fault.Geometry

  -- what holds of each slot holds past them
  pub of_each : (P : SlotImageValue → Type 0) → P no_slot
      → ((ino : ℕ) → ino < length image.slots → P (slot_of image ino))
      → (ino : ℕ) → P (slot_of image ino)
  of_each P none each ino = elim (cases_lt ino (length image.slots)) [
    | inl lt ↦ each ino lt
    | inr past ↦ subst P (sym (get_or_past image.slots ino no_slot past)) none
  ]

  pub paged : (ino : ℕ) → IsPaged g.page (slot_of image ino).chain
  paged = of_each (λ (s : SlotImageValue). IsPaged g.page s.chain)
      (record { parted = refl; paged = omega arith; within = omega arith }) (faultless fault.Chain)

  pub ordered : (ino : ℕ) → AreOrdered image.commit image.epoch (slot_of image ino).chain.entries
  ordered = of_each (λ (s : SlotImageValue). AreOrdered image.commit image.epoch s.chain.entries)
      (record { rising = tt; no_later = λ i e lt. absurd (omega (arith, lt)) })
      (faultless fault.Entry)

  pub few : (ino : ℕ) → tail_of image ino ≤ length (slot_of image ino).chain.entries
  few ino =
      let low = tail_low image ino (faultless fault.Journal) in
      let within = (paged ino).within in
      omega (arith, low, within)

  pub rising_log : (ino : ℕ) → IsLog (slot_of image ino).chain.entries
  rising_log ino = (ordered ino).rising

  pub cut_rises : (ino : ℕ) → IsLog (cut_log image ino)
  cut_rises ino = IsLog-take (tail_of image ino) (slot_of image ino).chain.entries (rising_log ino)

  abbrev pub its_cell : ℕ → CellState
  its_cell ino = cell_with g image.snapshots (tail_of image ino) (slot_of image ino)

  pub whole : (ino : ℕ) → log_of (its_cell ino) ≡ cut_log image ino
  whole ino = log_is g image.snapshots (tail_of image ino) (slot_of image ino)

  abbrev pub IsOver : ℕ → Bool
  IsOver ino = is_over image.snapshots g.block (cut_log image ino)

  pub left_is : (ino : ℕ) → IsOver ino ≡ false → cell_of image ino ≡ its_cell ino
  left_is ino left =
      ap (λ (b : Bool). cond b (empty_cell g.block g.page ((slot_of image ino).generation + 1) 0)
      (its_cell ino)) left

  -- each needed page has its block
  abbrev pub ThereFor : ℕ → CellState → Type 0
  ThereFor ino cell = (n number : ℕ) → IsNeededPage cell n number
      → option_map number_of (block_by (slot_of image ino).blocks number) ≡ Some number

  abbrev pub OnceFor : CellState → Type 0
  OnceFor cell = (n m number : ℕ) → IsNeededPage cell n number → IsNeededPage cell m number → n ≡ m

  pub there : (ino : ℕ) → ino < length image.slots → IsOver ino ≡ false
      → AreThere g.block image.snapshots (slot_of image ino).blocks (cut_log image ino)
  there ino lt left n number needed page =
      let run : ThereFor ino (its_cell ino) =
      subst (ThereFor ino) (left_is ino left) (faultless fault.Run ino lt).there in
      run n number
      (record {
        there = needed;
        says =
            ap (λ (l : List Entry). page_block g.block l n) (whole ino) ∙ page;
      })

  pub sized_in : (ino : ℕ) → ino < length image.slots → FitsSlot g (slot_of image ino)
  sized_in ino lt = fits.each ino lt

  pub one_cell : (ino : ℕ) → ino < length image.slots → IsCell (cell_of image ino)
  one_cell ino lt = by_cell IsCell g image.snapshots (tail_of image ino) (slot_of image ino)
      (λ over. empty_is g ((slot_of image ino).generation + 1) 0 limits)
      (λ left. cell_is g limits image.snapshots (tail_of image ino) (slot_of image ino) (paged ino)
      (few ino) (rising_log ino)
      (there ino lt left) (sized_in ino lt).blocks (sized_in ino lt).pages)

  -- what holds of each slot's cell holds of each in the world
  pub at_slot : (P : ℕ → CellState → Type 0) (ino : ℕ) → P ino no_cell
      → (ino < length image.slots → P ino (cell_of image ino)) → P ino (cell_at w.shared ino)
  at_slot P ino none there = elim (cases_lt ino (length image.slots)) [
    | inl lt ↦ subst (P ino) (sym (cell_there image ino lt)) (there lt)
    | inr past ↦ subst (P ino) (sym (cell_past image ino past)) none
  ]

  pub in_slots : (ino : ℕ) → ino < g.inodes → ino < length image.slots
  in_slots ino lt = omega (arith, lt, fits.slots)

  -- ---- blocks

  pub apart : (ino : ℕ) → ino < length image.slots → IsOver ino ≡ false
      → AreApart (its_cell ino).blocks
  apart ino lt left =
      apart_anew g image.snapshots (tail_of image ino) (slot_of image ino)
      (λ n m number there also says other.
      run n m number (record { there = there; says = own n ∙ says })
      (record { there = also; says = own m ∙ other })) where
        run : OnceFor (its_cell ino)
        run = subst OnceFor (left_is ino left) (faultless fault.Run ino lt).once

        own : (k : ℕ) → page_block g.block (log_of (its_cell ino)) k
            ≡ page_block g.block (cut_log image ino) k
        own k = ap (λ (l : List Entry). page_block g.block l k) (whole ino)

  pub among : (ino m : ℕ) (b : BlockValue) → slice_index_or (its_cell ino).blocks m None ≡ Some b
      → has (numbers_of (slot_of image ino).blocks) b.number ≡ true
  among ino m b is =
      found_there (slot_of image ino).blocks b.number b
      (told g image.snapshots (tail_of image ino) (slot_of image ino) m b is).found

  pub fewer_in : (k ino : ℕ) → ino < length image.slots
      → times k (stored_in (cell_of image ino)) ≤ times k (slot_numbers (slot_of image ino))
  fewer_in k ino lt =
      by_cell (λ (c : CellState). times k (stored_in c)
      ≤ times k (slot_numbers (slot_of image ino)))
      g image.snapshots (tail_of image ino) (slot_of image ino) (λ over. omega arith)
      (λ left. omega (
        arith,
        times-append k (numbers_of (its_cell ino).chain.blocks)
            (flat_map of_part (its_cell ino).blocks),
        fewer_taken k (length (its_cell ino).chain.ends) (slot_of image ino).chain.pages,
        fewer_parts k (its_cell ino).blocks (numbers_of (slot_of image ino).blocks)
            (apart ino lt left) (among ino),
        ap (times k) (numbers-append (slot_of image ino).chain.pages (slot_of image ino).blocks),
        times-append k (numbers_of (slot_of image ino).chain.pages)
            (numbers_of (slot_of image ino).blocks),
      ))

  pub fewer_used : (k : ℕ) → times k (used_anew image) ≤ times k (image_numbers image)
  fewer_used k =
      let same = ap (times k) (over_map (cell_of image) (range_with_len 0 (length image.slots))) in
      let less = fewer_slots k (λ n. stored_in (cell_of image n)) image.slots 0 (λ i lt.
      let zeroth : i ≡ 0 + i = omega arith in
      subst (λ (m : ℕ). times k (stored_in (cell_of image m))
      ≤ times k (slot_numbers (slot_of image i))) zeroth (fewer_in k i lt)) in
      omega (arith, same, less)

  pub one_block : (n : ℕ) → times n (flat_map free_of w.shared.lists) + times n (used_anew image)
      ≡ (if nat_lt n g.blocks then 1 else 0)
  one_block n =
      each_once g (omega (arith, limits.some_cpus)) (used_anew image) (free_block image)
      (its_block (image_blocks image) g.block)
      (λ k some. (faultless fault.Block).within k (omega (arith, some, fewer_used k)))
      (λ k. (let less = fewer_used k in let most =
      (faultless fault.Block).once k in omega (arith, less, most))) n

  pub blocks_once : IsEachOnce g.blocks (all_blocks w)
  blocks_once n =
      let none = ap (times n) (none_held g.actors) in
      omega (
        arith,
        one_block n,
        none,
        times-append n (flat_map free_of w.shared.lists) (flat_map stored_in w.shared.cells
            ++ flat_map held_by_actor w.actors),
        times-append n (flat_map stored_in w.shared.cells) (flat_map held_by_actor w.actors),
      )

  pub all_sized : AreSized g.block (image_blocks image)
  all_sized =
      sized_slots g.block image.slots
      (λ i lt. sized_append g.block (slot_of image i).chain.pages (slot_of image i).blocks
      (sized_in i lt).pages (sized_in i lt).blocks)

  pub list_is : (cpu : ℕ) → cpu < g.cpus
      → IsHomeList g cpu (slice_index_or w.shared.lists cpu no_list)
  list_is cpu lt = subst (IsHomeList g cpu)
      (sym (get_or-map-range_with_len (list_anew g (has (used_anew image)) (free_block image)) 0
      g.cpus cpu cpu no_list lt (omega arith)))
      (list_home g (omega (arith, limits.some_cpus)) (used_anew image) (free_block image)
      (its_block (image_blocks image) g.block) cpu
      (λ n. sized_or g.block n (image_blocks image) all_sized))
