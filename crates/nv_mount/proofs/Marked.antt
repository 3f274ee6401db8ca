-- Marks of the blocks that stand in an image, and what is free by them.
use Rattle.std.proofs.Common.{◌≡◌, ℕ, zero, suc, ◌+◌, ◌-◌, ◌<◌, ◌≤◌, ◌==◌, ◌||◌, inl, inr, ◌++◌, Bool, true, false, cond, List, [], ◌∷◌, Option, None, Some, length, map, take, set, get_or, replicate, arith, refl, ap, sym, subst, ◌∙◌}
use Rattle.std.specs.List.{flat_map, range_with_len}
use Rattle.std.specs.Prelude.{option_to_list, unwrap_or}
use Rattle.std.proofs.lemmas.List.FromFn.{get_or-map-range_with_len}
use Rattle.std.proofs.lemmas.Bool.{cases_lt, eqb-false, eqb-true, false≢true}
use Rattle.std.proofs.lemmas.List.{get_or-replicate, get_or-set_other, get_or-set_same, length-replicate, length-set, map-append, take_all, take_more}
use Rattle.std.proofs.lemmas.List.Folds.{list_any-append}
use Rattle.nv_alloc.specs.Block.{BlockValue, block_by, number_of, numbers_of, zero_block}
use Rattle.nv_alloc.specs.FreeList.{AreListsOf, FreeBlocks, no_list}
use Rattle.nv_alloc.specs.Numbers.{has, times}
use Rattle.nv_alloc.proofs.AllLists.{its_block, none_by}
use Rattle.nv_alloc.proofs.Lists.{has-first, has-times}
use Rattle.nv_alloc.proofs.ZeroBlocks.{zeros_by}
use Rattle.nv_audit.specs.Image.{ImageValue, SlotImageValue, image_blocks, image_numbers, slot_blocks, slot_numbers}
use Rattle.nv_audit.specs.Mounted.{free_block}
use Rattle.nv_base.specs.Homes.{home_start}
use Rattle.nv_base.specs.declared.geometry.GeometryNumbers.{GeometryNumbers}
use Rattle.nv_base.proofs.HomeRanges.{cuts}
use Rattle.nv_mount.specs.Build.{AreFree, block_at_home}
use Rattle.nv_mount.specs.Missing.{AreMarkedTo, AreMarks, AreWithin, is_marked, list_unmarked}

pub has-append : (xs ys : List ℕ) (n : ℕ) → has (xs ++ ys) n ≡ (has xs n || has ys n)
has-append xs ys n = list_any-append (λ (m : ℕ). m == n) xs ys

pub or_left : (a b : Bool) → a ≡ true → (a || b) ≡ true
or_left true b h = refl
or_left false b h = cc

pub or_right : (a b : Bool) → b ≡ true → (a || b) ≡ true
or_right true b h = refl
or_right false b h = h

or_assoc : (a b c : Bool) → ((a || b) || c) ≡ (a || (b || c))
or_assoc true b c = refl
or_assoc false b c = refl

-- ---- numbers below a bound

pub within_front : (count : ℕ) (xs ys : List ℕ) → AreWithin count (xs ++ ys) → AreWithin count xs
within_front count xs ys all n there = all n (has-append xs ys n ∙ or_left (has xs n) (has ys n) there)

pub within_back : (count : ℕ) (xs ys : List ℕ) → AreWithin count (xs ++ ys) → AreWithin count ys
within_back count xs ys all n there = all n (has-append xs ys n ∙ or_right (has xs n) (has ys n) there)

-- one of several lists
pub within_one : {X : Type 0} (f : X → List ℕ) (count : ℕ) (xs : List X) (i : ℕ) (d : X) → i < length xs
    → AreWithin count (flat_map f xs) → AreWithin count (f (get_or xs i d))
within_one f count [] i d lt all = absurd (omega (arith, lt))
within_one f count (x ∷ xs) zero d lt all = within_front count (f x) (flat_map f xs) all
within_one f count (x ∷ xs) (suc i) d lt all =
    within_one f count xs i d (omega (arith, lt)) (within_back count (f x) (flat_map f xs) all)

-- ---- marks

pub marked_none : (old : List Bool) → AreMarkedTo [] old old
marked_none old = record { len = refl; each = λ n lt. or_false (is_marked old n) } where
  or_false : (b : Bool) → b ≡ (b || false)
  or_false true = refl
  or_false false = refl

pub marked_one : (old : List Bool) (k : ℕ) → k < length old → AreMarkedTo (k ∷ []) old (set old k true)
marked_one old k lt = record { len = length-set old k true; each = λ n low. go n (k == n) refl } where
  go : (n : ℕ) (c : Bool) → (k == n) ≡ c → is_marked (set old k true) n ≡ (is_marked old n || (c || false))
  go n true q =
      let same : k ≡ n = eqb-true k n q in
      ap (λ (m : ℕ). is_marked (set old k true) m) (sym same) ∙ get_or-set_same old k true false lt
      ∙ sym (or_right (is_marked old n) true refl)
  go n false q =
      get_or-set_other old k n true false (λ e. eqb-false k n q (sym e)) ∙ plain (is_marked old n) where
        plain : (b : Bool) → b ≡ (b || false)
        plain true = refl
        plain false = refl

pub marked_both : (xs ys : List ℕ) (old mid new : List Bool) → AreMarkedTo xs old mid → AreMarkedTo ys mid new
    → AreMarkedTo (xs ++ ys) old new
marked_both xs ys old mid new first then' = record {
  len = then'.len ∙ first.len;
  each = λ n lt.
      then'.each n (omega (arith, lt, first.len))
      ∙ ap (λ (b : Bool). b || has ys n) (first.each n lt)
      ∙ or_assoc (is_marked old n) (has xs n) (has ys n)
      ∙ sym (ap (λ (b : Bool). is_marked old n || b) (has-append xs ys n));
}

pub marks_none : (count : ℕ) → AreMarks count [] (replicate count false)
marks_none count = record { len = length-replicate count false; each = λ n lt. get_or-replicate count n false false lt }

pub marks_more : (count : ℕ) (xs ys : List ℕ) (old new : List Bool) → AreMarks count xs old → AreMarkedTo ys old new
    → AreMarks count (xs ++ ys) new
marks_more count xs ys old new are more = record {
  len = more.len ∙ are.len;
  each = λ n lt.
      more.each n (omega (arith, lt, are.len)) ∙ ap (λ (b : Bool). b || has ys n) (are.each n lt) ∙ sym (has-append xs ys n);
}

-- ---- loops

-- what a list of lists has by one more
flat_more : {X : Type 0} (f : X → List ℕ) (xs : List X) (x : X) → flat_map f (xs ++ x ∷ []) ≡ flat_map f xs ++ f x
flat_more f [] x = single (f x) where
  single : (ys : List ℕ) → ys ++ [] ≡ ys
  single [] = refl
  single (y ∷ ys) = ap (λ (zs : List ℕ). y ∷ zs) (single ys)
flat_more f (y ∷ ys) x = ap (λ (zs : List ℕ). f y ++ zs) (flat_more f ys x) ∙ sym (assoc (f y) (flat_map f ys) (f x)) where
  assoc : (a b c : List ℕ) → (a ++ b) ++ c ≡ a ++ (b ++ c)
  assoc [] b c = refl
  assoc (z ∷ a) b c = ap (λ (zs : List ℕ). z ∷ zs) (assoc a b c)

pub marked_next : {X : Type 0} (f : X → List ℕ) (xs : List X) (i : ℕ) (x : X) (old mid new : List Bool) → i < length xs → x ≡ get_or xs i x
    → AreMarkedTo (flat_map f (take i xs)) old mid → AreMarkedTo (f x) mid new → AreMarkedTo (flat_map f (take (i + 1) xs)) old new
marked_next {X} f xs i x old mid new lt is before one =
    subst (λ (ns : List ℕ). AreMarkedTo ns old new)
    (sym (ap (flat_map f) (take_more xs i x lt ∙ ap (λ (y : X). take i xs ++ y ∷ []) (sym is)) ∙ flat_more f (take i xs) x))
    (marked_both (flat_map f (take i xs)) (f x) old mid new before one)

pub marks_next : {X : Type 0} (f : X → List ℕ) (count : ℕ) (xs : List X) (i : ℕ) (x : X) (mid new : List Bool) → i < length xs
    → x ≡ get_or xs i x → AreMarks count (flat_map f (take i xs)) mid → AreMarkedTo (f x) mid new
    → AreMarks count (flat_map f (take (i + 1) xs)) new
marks_next {X} f count xs i x mid new lt is before one =
    subst (λ (ns : List ℕ). AreMarks count ns new)
    (sym (ap (flat_map f) (take_more xs i x lt ∙ ap (λ (y : X). take i xs ++ y ∷ []) (sym is)) ∙ flat_more f (take i xs) x))
    (marks_more count (flat_map f (take i xs)) (f x) mid new before one)

-- numbers of blocks, and of places with blocks, as lists of lists
abbrev pub number_in : BlockValue → List ℕ
number_in b = b.number ∷ []

pub numbers_flat : (bs : List BlockValue) → numbers_of bs ≡ flat_map number_in bs
numbers_flat [] = refl
numbers_flat (b ∷ bs) = ap (λ (ns : List ℕ). b.number ∷ ns) (numbers_flat bs)

abbrev pub numbers_at : Option BlockValue → List ℕ
numbers_at place = numbers_of (option_to_list place)

pub places_flat : (places : List (Option BlockValue)) → numbers_of (flat_map option_to_list places) ≡ flat_map numbers_at places
places_flat [] = refl
places_flat (None ∷ places) = places_flat places
places_flat (Some b ∷ places) = ap (λ (ns : List ℕ). b.number ∷ ns) (places_flat places)

pub numbers_append : (xs ys : List BlockValue) → numbers_of (xs ++ ys) ≡ numbers_of xs ++ numbers_of ys
numbers_append xs ys = map-append number_of xs ys

-- the number of one of several blocks
pub number_within : (count : ℕ) (bs : List BlockValue) (i : ℕ) (b : BlockValue) → i < length bs → b ≡ get_or bs i b
    → AreWithin count (numbers_of bs) → b.number < count
number_within count bs i b lt is all =
    within_one number_in count bs i b lt (subst (AreWithin count) (numbers_flat bs) all) b.number
    (subst (λ (x : BlockValue). has (number_in x) b.number ≡ true) is (has-first b.number []))

-- once all are passed
pub marked_all : {X : Type 0} (f : X → List ℕ) (xs : List X) (i : ℕ) (old new : List Bool) → length xs ≤ i
    → AreMarkedTo (flat_map f (take i xs)) old new → AreMarkedTo (flat_map f xs) old new
marked_all {X} f xs i old new le are =
    subst (λ (ys : List X). AreMarkedTo (flat_map f ys) old new) (take_all i xs le) are

-- the blocks of a slot
pub slot_pages : (count : ℕ) (slot : SlotImageValue) → AreWithin count (slot_numbers slot) → AreWithin count (numbers_of slot.chain.pages)
slot_pages count slot all =
    within_front count (numbers_of slot.chain.pages) (numbers_of slot.blocks)
    (subst (AreWithin count) (numbers_append slot.chain.pages slot.blocks) all)

pub slot_data : (count : ℕ) (slot : SlotImageValue) → AreWithin count (slot_numbers slot) → AreWithin count (numbers_of slot.blocks)
slot_data count slot all =
    within_back count (numbers_of slot.chain.pages) (numbers_of slot.blocks)
    (subst (AreWithin count) (numbers_append slot.chain.pages slot.blocks) all)

pub marked_slot : (slot : SlotImageValue) (old mid new : List Bool) → AreMarkedTo (numbers_of slot.chain.pages) old mid
    → AreMarkedTo (numbers_of slot.blocks) mid new → AreMarkedTo (slot_numbers slot) old new
marked_slot slot old mid new pages blocks =
    subst (λ (ns : List ℕ). AreMarkedTo ns old new) (sym (numbers_append slot.chain.pages slot.blocks))
    (marked_both (numbers_of slot.chain.pages) (numbers_of slot.blocks) old mid new pages blocks)

-- a number that stands there stands there once at least
pub stands : (numbers : List ℕ) (n : ℕ) → has numbers n ≡ true → 1 ≤ times n numbers
stands numbers n there = elim (cases_lt 0 (times n numbers)) [
  | inl some ↦ omega (arith, some)
  | inr none ↦ let zero' : times n numbers ≡ 0 = omega (arith, none) in absurd (false≢true (sym (has-times n numbers zero') ∙ there))
]

-- ---- what is free

image_numbers_are : (slots : List SlotImageValue) → numbers_of (flat_map slot_blocks slots) ≡ flat_map slot_numbers slots
image_numbers_are [] = refl
image_numbers_are (slot ∷ slots) =
    numbers_append (slot_blocks slot) (flat_map slot_blocks slots) ∙ ap (λ (ns : List ℕ). slot_numbers slot ++ ns) (image_numbers_are slots)

-- the lists with the blocks that are not marked have those that an image does not have
pub free_missing : (image : ImageValue) (marks : List Bool) (lists : List FreeBlocks) → 0 < image.numbers.cpus
    → AreMarks image.numbers.blocks (image_numbers image) marks
    → lists ≡ map (list_unmarked image.numbers marks) (range_with_len 0 image.numbers.cpus) → AreListsOf image.numbers lists
    → AreFree image 0 (image_numbers image) lists
free_missing image marks lists some are made homes = record { homes = homes; each = each } where
  g : GeometryNumbers
  g = image.numbers

  its : (n : ℕ) (b : Bool) → has (image_numbers image) n ≡ b
      → cond b None (Some (zero_block g.block n)) ≡ cond b None (Some (free_block image n))
  its n true q = refl
  its n false q =
      let none = none_by (image_blocks image) n (ap (λ (ns : List ℕ). has ns n) (image_numbers_are image.slots) ∙ q) in
      ap Some (sym (ap (λ (o : Option BlockValue). unwrap_or o (zero_block g.block n)) none))

  each : (n : ℕ) → n < g.blocks → block_at_home n lists ≡ cond (has (image_numbers image) n) None (Some (free_block image n))
  each n lt =
      let one = (cuts g.blocks g.cpus some).once n lt in
      let start = home_start g.blocks g.cpus one.home in
      let end = home_start g.blocks g.cpus (one.home + 1) in
      let high : n < start + (end - start) = omega (arith, one.is_home.from, one.is_home.below) in
      let list : get_or lists one.home no_list ≡ list_unmarked g marks one.home =
      ap (λ (ls : List FreeBlocks). get_or ls one.home no_list) made
      ∙ get_or-map-range_with_len (list_unmarked g marks) 0 g.cpus one.home one.home no_list one.is_cpu (omega arith) in
      its_block g lists homes n one.home lt one.is_cpu one.is_home
      ∙ ap (λ (l : FreeBlocks). block_by l.blocks n) list
      ∙ zeros_by g.block (is_marked marks) n start (end - start) one.is_home.from high
      ∙ ap (λ (b : Bool). cond b None (Some (zero_block g.block n))) (are.each n lt)
      ∙ its n (has (image_numbers image) n) refl
