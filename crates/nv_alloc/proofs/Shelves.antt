-- A free list's slots, and the set of places beside them; pools.
use Rattle.std.proofs.Common.{◌≡◌, ℕ, zero, suc, ◌+◌, ◌-◌, ◌^◌, ◌<◌, ◌≤◌, ◌&&◌, ◌==◌, ◌⊎◌, inl, inr, Bool, true, false, cond, not, nat_lt, nat_le, List, [], ◌∷◌, Option, Some, None, length, map, set, get_or, replicate, arith, refl, ap, sym, subst, ◌∙◌}
use Rattle.std.proofs.lemmas.Bool.{cases_lt, eqb-true, false≢true, leb-true, leb-false, ltb-true, ltb-false}
use Rattle.std.proofs.lemmas.List.{get_or_default, get_or_past, length-map, length-replicate, map-set, length-set}
use Rattle.std.specs.List.{AllByRecursion, range_with_len}
use Rattle.std.specs.Option.{is_some}
use Rattle.nv_alloc.specs.Block.{AreSized, BlockValue, block_by, numbers_of, put_block, without_block, zero_block}
use Rattle.nv_alloc.specs.FreeList.{FreeBlocks, IsFreeList, IsShelf, is_home}
use Rattle.nv_alloc.specs.Giving.{takes}
use Rattle.nv_alloc.specs.Numbers.{IsRising, has, put_by}
use Rattle.nv_alloc.specs.InodePool.{IsPool}
use Rattle.nv_alloc.specs.Places.{IsLowest, places, present}
use Rattle.nv_alloc.proofs.Lists.{has-below, length-put_by}
use Rattle.nv_alloc.proofs.Slots.{some_there, present-empty, present-take, ArePlaced-take, ArePlaced-put, present-put, has-present, numbers-present, placed_above, length-present, block_by-present, present-out, length-out, sized-out, sized_at, no_block, present-none, ArePlaced-none, flags-none, full_slots, present-full, ArePlaced-full, flags-full, length-full, length-present-full, places-take, places-put, has-places, places-rising, places-within}

within_flags : (flags : List Bool) (k : ℕ) → get_or flags k false ≡ true → k < length flags
within_flags flags k e = elim (cases_lt k (length flags)) [
  | inl h ↦ h
  | inr h ↦ absurd (false≢true (sym (get_or_past flags k false h) ∙ e))
]

-- what the test of a home range says
pub home_is : (start end n : ℕ) → (nat_le start n && nat_lt n end) ≡ true → (start ≤ n) × (n < end)
home_is start end n h = go (nat_le start n) refl (nat_lt n end) refl h where
  go : (a : Bool) → nat_le start n ≡ a → (b : Bool) → nat_lt n end ≡ b → (a && b) ≡ true → (start ≤ n) × (n < end)
  go true p true q h = (leb-true start n p, ltb-true n end q)
  go true p false q h = cc
  go false p b q h = cc

pub home_isnt : (start end n : ℕ) → (nat_le start n && nat_lt n end) ≡ false → (n < start) ⊎ (end ≤ n)
home_isnt start end n h = go (nat_le start n) refl (nat_lt n end) refl h where
  go : (a : Bool) → nat_le start n ≡ a → (b : Bool) → nat_lt n end ≡ b → (a && b) ≡ false → (n < start) ⊎ (end ≤ n)
  go true p true q h = cc
  go true p false q h = inr (ltb-false n end q)
  go false p b q h = inl (leb-false start n p)

-- what a list asks of a block that it takes
pub record IsTaken (list : FreeBlocks) (b : BlockValue) : Type 0 where
  pub home : is_home list b.number ≡ true
  pub absent : has (numbers_of list.blocks) b.number ≡ false
  pub sized : length b.bytes ≡ list.size

pub taken : (list : FreeBlocks) (b : BlockValue) → takes list b ≡ true → IsTaken list b
taken list b h = go (is_home list b.number) refl (has (numbers_of list.blocks) b.number) refl (length b.bytes == list.size) refl h where
  go : (x : Bool) → is_home list b.number ≡ x → (y : Bool) → has (numbers_of list.blocks) b.number ≡ y → (z : Bool)
      → (length b.bytes == list.size) ≡ z → (x && not y && z) ≡ true → IsTaken list b
  go true p false q true r h = record { home = p; absent = q; sized = eqb-true (length b.bytes) list.size r }
  go true p false q false r h = cc
  go true p true q z r h = cc
  go false p y q z r h = cc

AreSized-put : (size : ℕ) (b : BlockValue) (bs : List BlockValue) → length b.bytes ≡ size → AreSized size bs
    → AreSized size (put_block b bs)
AreSized-put size b [] e h = (e, tt)
AreSized-put size b (x ∷ bs) e h = go (nat_lt b.number x.number) (AreSized-put size b bs e h.1) where
  go : (t : Bool) → AreSized size (put_block b bs) → AreSized size (cond t (b ∷ x ∷ bs) (x ∷ put_block b bs))
  go true rest = (e, h)
  go false rest = (h.0, rest)

AreSized-zero : (size s count : ℕ) → AreSized size (map (zero_block size) (range_with_len s count))
AreSized-zero size s zero = tt
AreSized-zero size s (suc count) = (length-replicate size 0, AreSized-zero size (s + 1) count)

-- ---- a list

module _ {start size count : ℕ} {slots : List (Option BlockValue)} {free : List Bool} (shelf : IsShelf start size slots free count) where
  abbrev list_of : FreeBlocks
  list_of = record { start = start; end = start + length slots; size = size; blocks = present slots }

  pub shelf_length : length free ≡ length slots
  shelf_length = ap length shelf.flags ∙ length-map slots is_some

  pub shelf_count : count < 2 ^ 32
  shelf_count = let k = length-present slots in omega (arith, k, shelf.counted, shelf.small)

  pub shelf_lawful : IsFreeList list_of
  shelf_lawful =
      let e = sym (numbers-present start slots shelf.placed) in
      let all = places-within start (start + length slots) start (map is_some slots) (omega arith) (omega
      (arith, length-map slots is_some)) in
      record {
        rising = subst IsRising e (places-rising start (map is_some slots));
        from_start = subst (AllByRecursion (λ n. start ≤ n)) e all.0;
        below_end = subst (AllByRecursion (λ n. n < start + length slots)) e all.1;
        sized = shelf.sized;
      }

  -- whether the slot of a number at home has a block
  pub shelf_has : (k n : ℕ) (x : Option BlockValue) → k < length slots → n ≡ start + k → x ≡ get_or slots k x
      → is_some x ≡ has (numbers_of (present slots)) n
  shelf_has k n x h e r = ap is_some (r ∙ get_or_default slots k x None h) ∙ sym (has-present k start n slots shelf.placed e)

  pub shelf_strange : (n : ℕ) → (n < start) ⊎ (start + length slots ≤ n) → has (numbers_of (present slots)) n ≡ false
  shelf_strange n (inl h) = has-below n (numbers_of (present slots)) (placed_above start n slots h shelf.placed)
  shelf_strange n (inr h) = has-present (n - start) start n slots shelf.placed (omega (arith, h))
      ∙ ap is_some (get_or_past slots (n - start) None (omega (arith, h)))

  pub shelf_none : IsLowest free None → present slots ≡ []
  shelf_none low = present-empty slots (λ k. ap (λ fs. get_or fs k false) (sym shelf.flags) ∙ low k)

  -- the lowest block, out of its slot
  module _ (place : ℕ) (x : Option BlockValue) (low : IsLowest free (Some place)) (at : x ≡ get_or slots place x) where
    pub shelf_within : place < length slots
    shelf_within = let k = within_flags free place low.0 in omega (arith, k, shelf_length)

    here : x ≡ get_or slots place None
    here = at ∙ get_or_default slots place x None shelf_within

    pub shelf_some : None ≡ x → ⊥
    shelf_some n =
        let q : true ≡ is_some (get_or slots place None) = sym low.0 ∙ ap (λ fs. get_or fs place false) shelf.flags
        ∙ some_there slots place in
        let f : true ≡ false = q ∙ ap is_some (sym (n ∙ here)) in cc

    pub shelf_taken : (b : BlockValue) → Some b ≡ x → present slots ≡ b ∷ present (set slots place None)
    shelf_taken b n = present-take place slots b (sym (n ∙ here)) (λ j lt. ap (λ fs. get_or fs j false) (sym shelf.flags) ∙ low.1 j lt)

    pub shelf_take : (b : BlockValue) → Some b ≡ x → IsShelf start size (set slots place None) (set free place false) (count - 1)
    shelf_take b n = record {
      placed = ArePlaced-take place start slots shelf.placed;
      flags = ap (λ fs. set fs place false) shelf.flags ∙ sym (map-set is_some slots place None);
      counted = let k = ap length (shelf_taken b n) in omega (arith, k, shelf.counted);
      sized = (subst (AreSized size) (shelf_taken b n) shelf.sized).1;
      small = omega (arith, shelf.small, length-set slots place None);
    }

    pub taken_sized : (b : BlockValue) → Some b ≡ x → length b.bytes ≡ size
    taken_sized b n = (subst (AreSized size) (shelf_taken b n) shelf.sized).0

  -- the block of a number that is free, out of its slot
  pub free_home : (n : ℕ) → has (numbers_of (present slots)) n ≡ true → (start ≤ n) × (n < start + length slots)
  free_home n there = go (cases_lt n start) (cases_lt n (start + length slots)) where
    strange : (n < start) ⊎ (start + length slots ≤ n) → (start ≤ n) × (n < start + length slots)
    strange out = let q : false ≡ true = sym (shelf_strange n out) ∙ there in cc

    go : (n < start) ⊎ (start ≤ n) → (n < start + length slots) ⊎ (start + length slots ≤ n) → (start ≤ n) × (n < start + length slots)
    go (inl low) b = strange (inl low)
    go (inr first) (inl h) = (first, h)
    go (inr first) (inr high) = strange (inr high)

  module _ (n k : ℕ) (there : has (numbers_of (present slots)) n ≡ true) (e : k ≡ n - start) where
    at_place : n ≡ start + k
    at_place = let home = free_home n there in omega (arith, home.0, e)

    pub free_within : k < length slots
    free_within = let home = free_home n there in omega (arith, home.0, home.1, e)

    pub free_left : present (set slots k None) ≡ without_block n (present slots)
    free_left = present-out k start n slots shelf.placed at_place

    module _ (x : Option BlockValue) (at : x ≡ get_or slots k x) where
      slot_is : x ≡ get_or slots k None
      slot_is = at ∙ get_or_default slots k x None free_within

      pub free_some : None ≡ x → ⊥
      free_some none =
          let q : true ≡ false = sym there ∙ has-present k start n slots shelf.placed at_place ∙ ap is_some (sym (none ∙ slot_is)) in cc

      pub free_block : (b : BlockValue) → Some b ≡ x → block_by (present slots) n ≡ Some b
      free_block b some = block_by-present k start n slots shelf.placed at_place ∙ sym (some ∙ slot_is)

      pub free_sized : (b : BlockValue) → Some b ≡ x → length b.bytes ≡ size
      free_sized b some = sized_at size k slots b shelf.sized (sym (some ∙ slot_is))

      pub free_out : (b : BlockValue) → Some b ≡ x → IsShelf start size (set slots k None) (set free k false) (count - 1)
      free_out b some = record {
        placed = ArePlaced-take k start slots shelf.placed;
        flags = ap (λ fs. set fs k false) shelf.flags ∙ sym (map-set is_some slots k None);
        counted = let more = length-out k slots b (sym (some ∙ slot_is)) in omega (arith, more, shelf.counted);
        sized = sized-out size k slots shelf.sized;
        small = omega (arith, shelf.small, length-set slots k None);
      }

  pub free_counted : (n : ℕ) → has (numbers_of (present slots)) n ≡ true → 0 < count
  free_counted n there = go (present slots) refl there where
    go : (bs : List BlockValue) → present slots ≡ bs → has (numbers_of bs) n ≡ true → 0 < count
    go [] e h = cc
    go (b ∷ bs) e h = omega (arith, ap length e, shelf.counted)

  -- a block that the list takes, in the slot of its number
  pub record IsGiven (k : ℕ) (b : BlockValue) : Type 0 where
    pub is_free : get_or slots k None ≡ None
    pub blocks : present (set slots k (Some b)) ≡ put_block b (present slots)
    pub shelf' : IsShelf start size (set slots k (Some b)) (set free k true) (count + 1)
    pub within : k < length slots

  pub given : (k : ℕ) (b : BlockValue) → IsTaken list_of b → k ≡ b.number - start → IsGiven k b
  given k b t e =
      let range = home_is start (start + length slots) b.number t.home in
      let within : k < length slots = omega (arith, range.0, range.1, e) in
      let number : b.number ≡ start + k = omega (arith, range.0, e) in
      let is_free : get_or slots k None ≡ None = none (get_or slots k None) (sym
      (has-present k start b.number slots shelf.placed number) ∙ t.absent) in
      let put = present-put k start slots b shelf.placed within is_free number in
      record {
        is_free = is_free;
        blocks = put;
        shelf' = record {
          placed = ArePlaced-put k start slots b shelf.placed number;
          flags = ap (λ fs. set fs k true) shelf.flags ∙ sym (map-set is_some slots k (Some b));
          counted = omega (arith, ap length put, shelf.counted, length-put_by (λ (y : BlockValue). y.number) b (present slots));
          sized = subst (AreSized size) (sym put) (AreSized-put size b (present slots) t.sized shelf.sized);
          small = omega (arith, shelf.small, length-set slots k (Some b));
        };
        within = within;
      } where
        none : (o : Option BlockValue) → is_some o ≡ false → o ≡ None
        none None q = refl
        none (Some b) q = cc

pub shelf_bare : (size start count : ℕ) (slots : List (Option BlockValue)) (free : List Bool) → slots ≡ replicate count None
    → free ≡ replicate count false → start + count < 2 ^ 32
    → IsShelf start size slots free 0
shelf_bare size start count slots free e f small = rw (e, f) (record {
  placed = ArePlaced-none start count;
  flags = flags-none count;
  counted = sym (ap length (present-none count));
  sized = rw (present-none count) tt;
  small = omega (arith, small, length-replicate count no_block);
})

pub shelf_full : (size start count : ℕ) (slots : List (Option BlockValue)) (free : List Bool) → slots ≡ full_slots size start count
    → free ≡ replicate count true → start + count < 2 ^ 32
    → IsShelf start size slots free count
shelf_full size start count slots free e f small = rw (e, f) (record {
  placed = ArePlaced-full size start count;
  flags = flags-full size start count;
  counted = sym (length-present-full size start count);
  sized = rw (present-full size start count) (AreSized-zero size start count);
  small = omega (arith, small, length-full size start count);
})

-- ---- pools

pub pool_taken : (flags : List Bool) (place : ℕ) → IsLowest flags (Some place) → places 0 flags ≡ place ∷ places 0 (set flags place false)
pool_taken flags place low = let e : 0 + place ≡ place = omega arith in
    places-take place 0 flags low.0 low.1 ∙ ap (λ n. n ∷ places 0 (set flags place false)) e

pub pool_has : (flags : List Bool) (n : ℕ) → has (places 0 flags) n ≡ get_or flags n false
pool_has flags n = has-places n 0 n flags (omega arith)

pub pool_given : (flags : List Bool) (n : ℕ) → n < length flags → has (places 0 flags) n ≡ false
    → places 0 (set flags n true) ≡ put_by (λ m. m) n (places 0 flags)
pool_given flags n h absent = places-put n 0 n flags h (sym (pool_has flags n) ∙ absent) (omega arith)

pub pool_lawful : (inodes : ℕ) (flags : List Bool) → length flags ≡ inodes → IsPool (record { inodes = inodes; numbers = places 0 flags })
pool_lawful inodes flags e = record {
  rising = places-rising 0 flags;
  below = (places-within 0 inodes 0 flags (omega arith) (omega
      (arith, e))).1;
}
