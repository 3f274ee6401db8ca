-- The blocks of a mounted cell stand in its slot, and in no other one.
use Rattle.std.proofs.Common.{◌≡◌, ℕ, zero, suc, ◌+◌, ◌<◌, ◌≤◌, ◌==◌, ◌||◌, ◌++◌, Bool, true, false, cond, List, [], ◌∷◌, Option, None, Some, length, map, take, drop, arith, refl, ap, sym, ◌∙◌}
use Rattle.std.specs.Prelude.{option_and_then, slice_index_or}
use Rattle.std.specs.List.{flat_map, range_with_len}
use Rattle.std.proofs.lemmas.List.{drop_more}
use Rattle.nv_alloc.specs.Block.{BlockValue, block_by, numbers_of}
use Rattle.nv_alloc.specs.Numbers.{has, times}
use Rattle.nv_alloc.proofs.Lists.{times-append}
use Rattle.nv_audit.specs.Faults.{IsFaultless}
use Rattle.nv_audit.specs.Image.{ImageValue, SlotImageValue, image_numbers, no_slot, slot_numbers, slot_of}
use Rattle.nv_audit.specs.Mounted.{cell_of, cell_with, is_over, tail_of}
use Rattle.nv_base.specs.declared.fault.ImageFault.TheVariants as fault
use Rattle.nv_base.specs.declared.geometry.GeometryNumbers.{GeometryNumbers}
use Rattle.nv_cell.specs.Anew.{block_anew, marks_anew}
use Rattle.nv_cell.specs.Cell.{empty_cell, of_part, page_block, stored_in}
use Rattle.nv_cell.specs.Marks.{is_there, mark_at}
use Rattle.nv_cell.specs.declared.mark.Mark.{Mark}
use Rattle.nv_entry.specs.Covered.{part_total}
use Rattle.nv_entry.specs.declared.item.Entry.{Entry}
use Rattle.nv_log.specs.Image.{cut_ends}
use Rattle.nv_mount.specs.Build.{IsApart, used_by}
use Rattle.nv_mount.proofs.Free.{times_slot}
use Rattle.nv_mount.proofs.Marked.{has-append, numbers_append, or_left, or_right, stands}

-- ---- a cell

front_has : (t : ℕ) (bs : List BlockValue) (n : ℕ) → has (numbers_of (take t bs)) n ≡ true → has (numbers_of bs) n ≡ true
front_has zero bs n there = cc
front_has (suc t) [] n there = cc
front_has (suc t) (b ∷ bs) n there = go (b.number == n) there (front_has t bs n) where
  go : (c : Bool) → (c || has (numbers_of (take t bs)) n) ≡ true → (has (numbers_of (take t bs)) n ≡ true → has (numbers_of bs) n ≡ true)
      → (c || has (numbers_of bs) n) ≡ true
  go true h more = refl
  go false h more = more h

found_has : (bs : List BlockValue) (m n : ℕ) → has (of_part (block_by bs m)) n ≡ true → has (numbers_of bs) n ≡ true
found_has [] m n there = cc
found_has (b ∷ bs) m n there = go (b.number == m) there (found_has bs m n) where
  here : (c : Bool) → (c || false) ≡ true → (c || has (numbers_of bs) n) ≡ true
  here true h = refl
  here false h = cc

  go : (c : Bool) → has (of_part (cond c (Some b) (block_by bs m))) n ≡ true
      → (has (of_part (block_by bs m)) n ≡ true → has (numbers_of bs) n ≡ true) → ((b.number == n) || has (numbers_of bs) n) ≡ true
  go true h more = here (b.number == n) h
  go false h more = or_right (b.number == n) (has (numbers_of bs) n) (more h)

part_has : (bs : List BlockValue) (block : ℕ) (log : List Entry) (marks : List Mark) (k n : ℕ)
    → has (of_part (block_anew bs block log marks k)) n ≡ true → has (numbers_of bs) n ≡ true
part_has bs block log marks k n there = go (is_there (mark_at marks k)) (page_block block log k) there where
  go : (c : Bool) (o : Option ℕ) → has (of_part (cond c (option_and_then (block_by bs) o) None)) n ≡ true → has (numbers_of bs) n ≡ true
  go true (Some m) h = found_has bs m n h
  go true None h = cc
  go false o h = cc

-- what holds of one of two lists
one_of : (xs ys : List ℕ) (n : ℕ) (P : Type 0) → (has xs n ≡ true → P) → (has ys n ≡ true → P) → has (xs ++ ys) n ≡ true → P
one_of xs ys n P first later there = go (has xs n) refl (sym (has-append xs ys n) ∙ there) where
  go : (c : Bool) → has xs n ≡ c → (c || has ys n) ≡ true → P
  go true q h = first q
  go false q h = later h

parts_have : (f : ℕ → Option BlockValue) (bs : List BlockValue) (n : ℕ)
    → ((k : ℕ) → has (of_part (f k)) n ≡ true → has (numbers_of bs) n ≡ true)
    → (ks : List ℕ) → has (flat_map of_part (map f ks)) n ≡ true → has (numbers_of bs) n ≡ true
parts_have f bs n each [] there = cc
parts_have f bs n each (k ∷ ks) there =
    one_of (of_part (f k)) (flat_map of_part (map f ks)) n (has (numbers_of bs) n ≡ true) (each k) (parts_have f bs n each ks) there

module _ (image : ImageValue) (ino n : ℕ) where
  abbrev g : GeometryNumbers
  g = image.numbers

  abbrev slot : SlotImageValue
  slot = slot_of image ino

  abbrev log : List Entry
  log = take (tail_of image ino) slot.chain.entries

  abbrev ends : List ℕ
  ends = cut_ends (tail_of image ino) slot.chain.ends

  abbrev marks : List Mark
  marks = marks_anew image.snapshots g.block log

  either : has (slot_numbers slot) n ≡ (has (numbers_of slot.chain.pages) n || has (numbers_of slot.blocks) n)
  either = ap (λ (ns : List ℕ). has ns n) (numbers_append slot.chain.pages slot.blocks)
      ∙ has-append (numbers_of slot.chain.pages) (numbers_of slot.blocks) n

  left_in_slot : has (stored_in (cell_with g image.snapshots (tail_of image ino) slot)) n ≡ true → has (slot_numbers slot) n ≡ true
  left_in_slot =
      one_of (numbers_of (take (length ends) slot.chain.pages))
      (flat_map of_part (map (block_anew slot.blocks g.block log marks) (range_with_len 0 (part_total log)))) n
      (has (slot_numbers slot) n ≡ true)
      (λ q. either ∙ or_left (has (numbers_of slot.chain.pages) n) (has (numbers_of slot.blocks) n) (front_has (length ends) slot.chain.pages n q))
      (λ q. either ∙ or_right (has (numbers_of slot.chain.pages) n) (has (numbers_of slot.blocks) n)
      (parts_have (block_anew slot.blocks g.block log marks) slot.blocks n (λ k r. part_has slot.blocks g.block log marks k n r)
      (range_with_len 0 (part_total log)) q))

  -- each block of the cell of a slot is one of the slot
  pub cell_in_slot : has (stored_in (cell_of image ino)) n ≡ true → has (slot_numbers (slot_of image ino)) n ≡ true
  cell_in_slot = go (is_over image.snapshots g.block log) where
    go : (c : Bool)
        → has (stored_in (cond c (empty_cell g.block g.page (slot.generation + 1) 0)
        (cell_with g image.snapshots (tail_of image ino) slot))) n ≡ true
        → has (slot_numbers slot) n ≡ true
    go true h = cc
    go false h = left_in_slot h

-- ---- the cells that are made

-- a slot of the first ones has the number
record StandsBefore (image : ImageValue) (made n : ℕ) : Type 0 where
  ino : ℕ
  low : ino < made
  there : has (slot_numbers (slot_of image ino)) n ≡ true

stands_before : (image : ImageValue) (a len n : ℕ) → has (flat_map stored_in (map (cell_of image) (range_with_len a len))) n ≡ true
    → StandsBefore image (a + len) n
stands_before image a zero n there = cc
stands_before image a (suc len) n there =
    one_of (stored_in (cell_of image a)) (flat_map stored_in (map (cell_of image) (range_with_len (a + 1) len))) n
    (StandsBefore image (a + suc len) n)
    (λ q. record { ino = a; low = omega arith; there = cell_in_slot image a n q })
    (λ q. let more = stands_before image (a + 1) len n q in record { ino = more.ino; low = omega (arith, more.low); there = more.there })
    there

times_two : (slots : List SlotImageValue) (i j n : ℕ) → i < j → j < length slots
    → has (slot_numbers (slice_index_or slots i no_slot)) n ≡ true → has (slot_numbers (slice_index_or slots j no_slot)) n ≡ true
    → 2 ≤ times n (flat_map slot_numbers slots)
times_two [] i j n less lt first later = absurd (omega (arith, lt))
times_two (slot ∷ slots) i zero n less lt first later = absurd (omega (arith, less))
times_two (slot ∷ slots) zero (suc j) n less lt first later =
    let own = stands (slot_numbers slot) n first in
    let other = stands (slot_numbers (slice_index_or slots j no_slot)) n later in
    omega (
      arith,
      own,
      other,
      times_slot slots j n (omega (arith, lt)),
      times-append n (slot_numbers slot) (flat_map slot_numbers slots),
    )
times_two (slot ∷ slots) (suc i) (suc j) n less lt first later =
    omega (
      arith,
      times_two slots i j n (omega (arith, less)) (omega (arith, lt)) first later,
      times-append n (slot_numbers slot) (flat_map slot_numbers slots),
    )

-- ---- what is to come

-- the numbers of the blocks that are to come, once so many cells are made
abbrev pub owed_after : ImageValue → ℕ → List ℕ
owed_after image made = flat_map slot_numbers (drop made image.slots)

times_later : (k : ℕ) (slots : List SlotImageValue) (n : ℕ)
    → times n (flat_map slot_numbers (drop k slots)) ≤ times n (flat_map slot_numbers slots)
times_later zero slots n = omega arith
times_later (suc k) [] n = omega arith
times_later (suc k) (slot ∷ slots) n =
    omega (arith, times_later k slots n, times-append n (slot_numbers slot) (flat_map slot_numbers slots))

pub owed_next : (image : ImageValue) (made : ℕ) → made < length image.slots
    → owed_after image made ≡ slot_numbers (slot_of image made) ++ owed_after image (made + 1)
owed_next image made lt = ap (flat_map slot_numbers) (drop_more image.slots made no_slot lt)

-- THE BLOCKS OF THE NEXT SLOT are with none of the cells that are made, and with no later slot
pub next_apart : (image : ImageValue) → IsFaultless image → (made : ℕ) → made < length image.slots
    → IsApart image made (owed_after image (made + 1))
next_apart image faultless made lt n there = both (has (used_by image made) n) (has (owed_after image (made + 1)) n) refl refl where
  once : times n (image_numbers image) ≤ 1
  once = (faultless fault.Block).once n

  both : (a b : Bool) → has (used_by image made) n ≡ a → has (owed_after image (made + 1)) n ≡ b → (a || b) ≡ false
  both true b p q =
      let before = stands_before image 0 made n p in
      let low : before.ino < made = omega (arith, before.low) in
      let two = times_two image.slots before.ino made n low lt before.there there in
      absurd (omega (arith, two, once))
  both false true p q =
      let own = stands (slot_numbers (slot_of image made)) n there in
      let other = stands (owed_after image (made + 1)) n q in
      let all = times_later made image.slots n in
      let parted = ap (times n) (owed_next image made lt)
      ∙ times-append n (slot_numbers (slot_of image made)) (owed_after image (made + 1)) in
      absurd (omega (arith, own, other, all, parted, once))
  both false false p q = refl
