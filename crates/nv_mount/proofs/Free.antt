-- What is free while cells are made: blocks of an image go home, and have the bytes that they have there.
use Rattle.std.proofs.Common.{◌≡◌, ℕ, zero, suc, ◌<◌, ◌≤◌, ◌==◌, ◌||◌, ◌++◌, Bool, true, false, cond, List, [], ◌∷◌, Option, None, Some, length, get_or, arith, refl, ap, sym, subst, ◌∙◌}
use Rattle.std.specs.Prelude.{unwrap_or}
use Rattle.std.specs.List.{AllByRecursion, flat_map}
use Rattle.std.specs.Option.{option_or}
use Rattle.std.proofs.lemmas.Bool.{eq-eqb, false≢true}
use Rattle.nv_alloc.specs.Block.{AreSized, BlockValue, block_by, numbers_of, zero_block}
use Rattle.nv_alloc.specs.FreeList.{FreeBlocks}
use Rattle.nv_alloc.specs.Numbers.{has, times}
use Rattle.nv_alloc.proofs.AllLists.{either_by, none_by}
use Rattle.nv_alloc.proofs.Lists.{has-times, times-append}
use Rattle.nv_audit.specs.Faults.{IsFaultless}
use Rattle.nv_audit.specs.Image.{ImageValue, SlotImageValue, no_slot, slot_blocks, slot_numbers, slot_of}
use Rattle.nv_audit.specs.Mounted.{free_block}
use Rattle.nv_base.specs.declared.fault.ImageFault.TheVariants as fault
use Rattle.nv_mount.specs.Build.{AreFree, AreGivenHome, CanAllGoHome, block_at_home, used_by}
use Rattle.nv_mount.proofs.GoingHome.{none_has}
use Rattle.nv_mount.proofs.Marked.{numbers_append, or_left, or_right, has-append, stands}

-- ---- blocks by their numbers

some_has : (bs : List BlockValue) (n : ℕ) (b : BlockValue) → block_by bs n ≡ Some b → has (numbers_of bs) n ≡ true
some_has [] n b e = cc
some_has (x ∷ bs) n b e = go (x.number == n) e (some_has bs n b) where
  go : (c : Bool) → cond c (Some x) (block_by bs n) ≡ Some b → (block_by bs n ≡ Some b → has (numbers_of bs) n ≡ true)
      → (c || has (numbers_of bs) n) ≡ true
  go true k more = refl
  go false k more = more k

-- a number that stands among the first is there, and one that stands among the later alone is there
first_of : (xs ys : List BlockValue) (n : ℕ) → has (numbers_of xs) n ≡ true → block_by (xs ++ ys) n ≡ block_by xs n
first_of xs ys n there = either_by xs ys n ∙ go (block_by xs n) refl where
  go : (o : Option BlockValue) → block_by xs n ≡ o → option_or o (block_by ys n) ≡ o
  go None e = absurd (false≢true (sym (none_has xs n e) ∙ there))
  go (Some b) e = refl

later_of : (xs ys : List BlockValue) (n : ℕ) → has (numbers_of xs) n ≡ false → block_by (xs ++ ys) n ≡ block_by ys n
later_of xs ys n out = either_by xs ys n ∙ ap (λ (o : Option BlockValue). option_or o (block_by ys n)) (none_by xs n out)

-- of two lists that have no number twice together, one has it
not_both : (xs ys : List ℕ) (n : ℕ) → times n (xs ++ ys) ≤ 1 → has ys n ≡ true → has xs n ≡ false
not_both xs ys n once there =
    let some = stands ys n there in
    let none : times n xs ≡ 0 = omega (arith, times-append n xs ys, once, some) in
    has-times n xs none

-- ---- the blocks of a slot

pub times_slot : (slots : List SlotImageValue) (i n : ℕ) → i < length slots
    → times n (slot_numbers (get_or slots i no_slot)) ≤ times n (flat_map slot_numbers slots)
times_slot [] i n lt = absurd (omega (arith, lt))
times_slot (slot ∷ slots) zero n lt =
    let all = times-append n (slot_numbers slot) (flat_map slot_numbers slots) in omega (arith, all)
times_slot (slot ∷ slots) (suc i) n lt =
    let all = times-append n (slot_numbers slot) (flat_map slot_numbers slots) in
    let one = times_slot slots i n (omega (arith, lt)) in omega (arith, all, one)

block_of_slot : (slots : List SlotImageValue) (i n : ℕ) → i < length slots → times n (flat_map slot_numbers slots) ≤ 1
    → has (slot_numbers (get_or slots i no_slot)) n ≡ true
    → block_by (flat_map slot_blocks slots) n ≡ block_by (slot_blocks (get_or slots i no_slot)) n
block_of_slot [] i n lt once there = absurd (omega (arith, lt))
block_of_slot (slot ∷ slots) zero n lt once there = first_of (slot_blocks slot) (flat_map slot_blocks slots) n there
block_of_slot (slot ∷ slots) (suc i) n lt once there =
    let all = times-append n (slot_numbers slot) (flat_map slot_numbers slots) in
    let low : i < length slots = omega (arith, lt) in
    let own = stands (slot_numbers (get_or slots i no_slot)) n there in
    let few = times_slot slots i n low in
    let none : times n (slot_numbers slot) ≡ 0 = omega (arith, all, own, few, once) in
    later_of (slot_blocks slot) (flat_map slot_blocks slots) n (has-times n (slot_numbers slot) none)
    ∙ block_of_slot slots i n low (omega (arith, all, once)) there

-- ---- a slot of an image without a fault

module _ (image : ImageValue) (faultless : IsFaultless image) (ino : ℕ) (lt : ino < length image.slots) where
  abbrev slot : SlotImageValue
  slot = slot_of image ino

  pub slot_once : (n : ℕ) → times n (slot_numbers slot) ≤ 1
  slot_once n = let few = times_slot image.slots ino n lt in omega (arith, few, (faultless fault.Block).once n)

  pub slot_within : (n : ℕ) → has (slot_numbers slot) n ≡ true → n < image.numbers.blocks
  slot_within n there =
      let few = times_slot image.slots ino n lt in
      let own = stands (slot_numbers slot) n there in
      (faultless fault.Block).within n (omega (arith, few, own))

  slot_free : (n : ℕ) (b : BlockValue) → has (slot_numbers slot) n ≡ true → block_by (slot_blocks slot) n ≡ Some b → b ≡ free_block image n
  slot_free n b there e =
      sym (ap (λ (o : Option BlockValue). unwrap_or o (zero_block image.numbers.block n))
      (block_of_slot image.slots ino n lt ((faultless fault.Block).once n) there ∙ e))

  both : (n : ℕ) → has (slot_numbers slot) n ≡ (has (numbers_of slot.chain.pages) n || has (numbers_of slot.blocks) n)
  both n = ap (λ (ns : List ℕ). has ns n) (numbers_append slot.chain.pages slot.blocks)
      ∙ has-append (numbers_of slot.chain.pages) (numbers_of slot.blocks) n

  pub page_there : (n : ℕ) → has (numbers_of slot.chain.pages) n ≡ true → has (slot_numbers slot) n ≡ true
  page_there n there = both n ∙ or_left (has (numbers_of slot.chain.pages) n) (has (numbers_of slot.blocks) n) there

  pub data_there : (n : ℕ) → has (numbers_of slot.blocks) n ≡ true → has (slot_numbers slot) n ≡ true
  data_there n there = both n ∙ or_right (has (numbers_of slot.chain.pages) n) (has (numbers_of slot.blocks) n) there

  -- no page is a data block
  pub data_no_page : (n : ℕ) → has (numbers_of slot.blocks) n ≡ true → has (numbers_of slot.chain.pages) n ≡ false
  data_no_page n there =
      not_both (numbers_of slot.chain.pages) (numbers_of slot.blocks) n
      (subst (λ (ns : List ℕ). times n ns ≤ 1) (numbers_append slot.chain.pages slot.blocks) (slot_once n)) there

  pub data_free : (n : ℕ) (b : BlockValue) → block_by slot.blocks n ≡ Some b → b ≡ free_block image n
  data_free n b e =
      let there = some_has slot.blocks n b e in
      slot_free n b (data_there n there) (later_of slot.chain.pages slot.blocks n (data_no_page n there) ∙ e)

  pub page_free : (n : ℕ) (b : BlockValue) → block_by slot.chain.pages n ≡ Some b → b ≡ free_block image n
  page_free n b e =
      let there = some_has slot.chain.pages n b e in
      slot_free n b (page_there n there) (first_of slot.chain.pages slot.blocks n there ∙ e)

  pub data_once : (n : ℕ) → times n (numbers_of slot.blocks) ≤ 1
  data_once n =
      let whole = subst (λ (ns : List ℕ). times n ns ≤ 1) (numbers_append slot.chain.pages slot.blocks) (slot_once n) in
      omega (arith, times-append n (numbers_of slot.chain.pages) (numbers_of slot.blocks), whole)

  pub page_once : (n : ℕ) → times n (numbers_of slot.chain.pages) ≤ 1
  page_once n =
      let whole = subst (λ (ns : List ℕ). times n ns ≤ 1) (numbers_append slot.chain.pages slot.blocks) (slot_once n) in
      omega (arith, times-append n (numbers_of slot.chain.pages) (numbers_of slot.blocks), whole)

-- ---- blocks that go home

-- `all` are to come, and of them these blocks come now
pub record ComeNow (image : ImageValue) (ino : ℕ) (all left : List ℕ) (bs : List BlockValue) : Type 0 where
  pub parted : (n : ℕ) → has all n ≡ (has (numbers_of bs) n || has left n)
  pub apart : (n : ℕ) → has (numbers_of bs) n ≡ true → (has (used_by image ino) n || has left n) ≡ false
  pub bytes : (n : ℕ) (b : BlockValue) → block_by bs n ≡ Some b → b ≡ free_block image n

pub given_free : (image : ImageValue) (ino : ℕ) (all left : List ℕ) (bs : List BlockValue) (lists new : List FreeBlocks)
    → ComeNow image ino all left bs → AreFree image ino all lists → AreGivenHome image.numbers bs lists new
    → AreFree image ino left new
given_free image ino all left bs lists new come free given = record {
  homes = given.homes;
  each = λ n lt. given.each n ∙ go n lt (block_by bs n) refl;
} where
  go : (n : ℕ) → n < image.numbers.blocks → (o : Option BlockValue) → block_by bs n ≡ o
      → option_or o (block_at_home n lists) ≡ cond (has (used_by image ino) n || has left n) None (Some (free_block image n))
  go n lt None e =
      free.each n lt
      ∙ ap (λ (b : Bool). cond (has (used_by image ino) n || b) None (Some (free_block image n)))
      (come.parted n ∙ ap (λ (b : Bool). b || has left n) (none_has bs n e))
  go n lt (Some b) e =
      ap Some (come.bytes n b e)
      ∙ sym (ap (λ (c : Bool). cond c None (Some (free_block image n))) (come.apart n (some_has bs n b e)))

pub can_give : (image : ImageValue) (ino : ℕ) (all left : List ℕ) (bs : List BlockValue) (lists : List FreeBlocks)
    → ComeNow image ino all left bs → AreFree image ino all lists → ((n : ℕ) → times n (numbers_of bs) ≤ 1)
    → ((n : ℕ) → has (numbers_of bs) n ≡ true → n < image.numbers.blocks) → AreSized image.numbers.block bs
    → CanAllGoHome image.numbers bs lists
can_give image ino all left bs lists come free once within sized = record {
  homes = free.homes;
  device = each_within bs within;
  sized = sized;
  once = once;
  away = λ n there.
      free.each n (within n there)
      ∙ ap (λ (b : Bool). cond b None (Some (free_block image n)))
      (or_right (has (used_by image ino) n) (has all n) (come.parted n ∙ or_left (has (numbers_of bs) n) (has left n) there));
} where
  each_within : (xs : List BlockValue) → ((n : ℕ) → has (numbers_of xs) n ≡ true → n < image.numbers.blocks)
      → AllByRecursion (λ (b : BlockValue). b.number < image.numbers.blocks) xs
  each_within [] low = tt
  each_within (x ∷ xs) low = (
    low x.number (or_left (x.number == x.number) (has (numbers_of xs) x.number) (eq-eqb x.number x.number refl)),
    each_within xs (λ n there. low n (or_right (x.number == n) (has (numbers_of xs) n) there)),
  )
