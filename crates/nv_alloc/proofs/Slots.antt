-- Sets of places, and slots with blocks in them.
use Rattle.std.proofs.Common.{◌≡◌, ◌≢◌, ℕ, zero, suc, ◌+◌, ◌<◌, ◌≤◌, ◌==◌, ◌||◌, Bool, true, false, cond, not, List, [], ◌∷◌, Option, Some, None, length, map, set, get_or, replicate, arith, refl, ap, sym, subst, ◌∙◌}
use Rattle.std.proofs.lemmas.Bool.{eq-eqb, le-ltb, ne_eqb}
use Rattle.std.proofs.lemmas.List.{length-map}
use Rattle.std.proofs.lemmas.List.FromFn.{length-range_with_len}
use Rattle.std.specs.List.{AllByRecursion, range_with_len}
use Rattle.std.specs.Option.{is_some}
use Rattle.nv_alloc.specs.Block.{AreSized, BlockValue, block_by, number_of, numbers_of, put_block, without_block, zero_block}
use Rattle.nv_alloc.specs.FreeList.{ArePlaced}
use Rattle.nv_alloc.specs.Numbers.{IsRising, has, put_by}
use Rattle.nv_alloc.specs.Places.{places, present}
use Rattle.nv_alloc.proofs.Lists.{has-below, has-first, has-other, put_by-first}

-- ---- sets of places

pub places-empty : (low : ℕ) (flags : List Bool) → ((k : ℕ) → get_or flags k false ≡ false) → places low flags ≡ []
places-empty low [] h = refl
places-empty low (false ∷ flags) h = places-empty (low + 1) flags (λ k. h (suc k))
places-empty low (true ∷ flags) h = let e : true ≡ false = h 0 in cc

places_above : (low n : ℕ) (flags : List Bool) → n < low → AllByRecursion (λ m. n < m) (places low flags)
places_above low n [] h = tt
places_above low n (false ∷ flags) h = places_above (low + 1) n flags (omega (arith, h))
places_above low n (true ∷ flags) h = (h, places_above (low + 1) n flags (omega (arith, h)))

pub places-take : (k low : ℕ) (flags : List Bool) → get_or flags k false ≡ true → ((j : ℕ) → j < k → get_or flags j false ≡ false)
    → places low flags ≡ (low + k) ∷ places low (set flags k false)
places-take k low [] e h = cc
places-take zero low (false ∷ flags) e h = cc
places-take zero low (true ∷ flags) e h = let q : low ≡ low + 0 = omega arith in ap (λ n. n ∷ places (low + 1) flags) q
places-take (suc k) low (false ∷ flags) e h =
    let q : low + 1 + k ≡ low + suc k = omega arith in
    places-take k (low + 1) flags e (λ j lt. h (suc j) (omega arith)) ∙ ap (λ n. n ∷ places (low + 1) (set flags k false)) q
places-take (suc k) low (true ∷ flags) e h = let q : true ≡ false = h 0 (omega arith) in cc

all_same : (n : ℕ) (ms : List ℕ) → AllByRecursion (λ m. n < m) ms → AllByRecursion (λ m. n < m) (map (λ m. m) ms)
all_same n [] a = tt
all_same n (m ∷ ms) a = (a.0, all_same n ms a.1)

pub places-put : (k low n : ℕ) (flags : List Bool) → k < length flags → get_or flags k false ≡ false → n ≡ low + k
    → places low (set flags k true) ≡ put_by (λ m. m) n (places low flags)
places-put k low n [] h free e = absurd (omega (arith, h))
places-put zero low n (false ∷ flags) h free e =
    let q : low ≡ n = omega (arith, e) in
    rw q (sym (put_by-first (λ m. m) n (places (n + 1) flags) (all_same n (places (n + 1) flags) (places_above (n + 1) n flags
    (omega arith)))))
places-put zero low n (true ∷ flags) h free e = cc
places-put (suc k) low n (false ∷ flags) h free e = places-put k (low + 1) n flags (omega (arith, h)) free (omega (arith, e))
places-put (suc k) low n (true ∷ flags) h free e =
    rw (le-ltb n low (omega (arith, e))) (ap (λ ms. low ∷ ms) (places-put k (low + 1) n flags (omega (arith, h)) free (omega (arith, e))))

pub has-places : (k low n : ℕ) (flags : List Bool) → n ≡ low + k → has (places low flags) n ≡ get_or flags k false
has-places k low n [] e = refl
has-places zero low n (false ∷ flags) e = has-below n (places (low + 1) flags) (places_above (low + 1) n flags (omega (arith, e)))
has-places zero low n (true ∷ flags) e = let q : low ≡ n = omega (arith, e) in rw q (has-first n (places (n + 1) flags))
has-places (suc k) low n (false ∷ flags) e = has-places k (low + 1) n flags (omega (arith, e))
has-places (suc k) low n (true ∷ flags) e =
    let q : low ≢ n = omega (arith, e) in
    has-other low n (places (low + 1) flags) q ∙ has-places k (low + 1) n flags (omega (arith, e))

pub places-rising : (low : ℕ) (flags : List Bool) → IsRising (places low flags)
places-rising low [] = tt
places-rising low (false ∷ flags) = places-rising (low + 1) flags
places-rising low (true ∷ flags) = (places_above (low + 1) low flags (omega arith), places-rising (low + 1) flags)

pub places-within : (start end low : ℕ) (flags : List Bool) → start ≤ low → low + length flags ≤ end
    → AllByRecursion (λ n. start ≤ n) (places low flags) × AllByRecursion (λ n. n < end) (places low flags)
places-within start end low [] g h = (tt, tt)
places-within start end low (false ∷ flags) g h = places-within start end (low + 1) flags (omega (arith, g)) (omega (arith, h))
places-within start end low (true ∷ flags) g h =
    let later = places-within start end (low + 1) flags (omega (arith, g)) (omega (arith, h)) in
    ((g, later.0), (omega (arith, h), later.1))

pub length-places : (low : ℕ) (flags : List Bool) → length (places low flags) ≤ length flags
length-places low [] = omega arith
length-places low (false ∷ flags) = let k = length-places (low + 1) flags in omega (arith, k)
length-places low (true ∷ flags) = let k = length-places (low + 1) flags in omega (arith, k)

pub places-full : (low count : ℕ) → places low (replicate count true) ≡ range_with_len low count
places-full low zero = refl
places-full low (suc count) = ap (λ ns. low ∷ ns) (places-full (low + 1) count)

-- ---- slots, whose blocks have the numbers of the places with a block

pub numbers-present : (s : ℕ) (slots : List (Option BlockValue)) → ArePlaced s slots
    → numbers_of (present slots) ≡ places s (map is_some slots)
numbers-present s [] p = refl
numbers-present s (None ∷ slots) p = numbers-present (s + 1) slots p
numbers-present s (Some x ∷ slots) p = λ i. p.0 i ∷ numbers-present (s + 1) slots p.1 i

pub placed_above : (s n : ℕ) (slots : List (Option BlockValue)) → n < s → ArePlaced s slots
    → AllByRecursion (λ m. n < m) (numbers_of (present slots))
placed_above s n slots h p = subst (AllByRecursion (λ m. n < m)) (sym (numbers-present s slots p)) (places_above s n (map is_some slots) h)

pub some_there : (slots : List (Option BlockValue)) (k : ℕ) → get_or (map is_some slots) k false ≡ is_some (get_or slots k None)
some_there [] k = refl
some_there (s ∷ slots) zero = refl
some_there (s ∷ slots) (suc k) = some_there slots k

pub has-present : (k s n : ℕ) (slots : List (Option BlockValue)) → ArePlaced s slots → n ≡ s + k
    → has (numbers_of (present slots)) n ≡ is_some (get_or slots k None)
has-present k s n slots p e = ap (λ ns. has ns n) (numbers-present s slots p) ∙ has-places k s n (map is_some slots) e ∙ some_there slots k

pub length-present : (slots : List (Option BlockValue)) → length (present slots) ≤ length slots
length-present [] = omega arith
length-present (None ∷ slots) = let k = length-present slots in omega (arith, k)
length-present (Some x ∷ slots) = let k = length-present slots in omega (arith, k)

pub present-empty : (slots : List (Option BlockValue)) → ((k : ℕ) → get_or (map is_some slots) k false ≡ false) → present slots ≡ []
present-empty [] h = refl
present-empty (None ∷ slots) h = present-empty slots (λ k. h (suc k))
present-empty (Some b ∷ slots) h = let e : true ≡ false = h 0 in cc

-- the lowest block leaves its slot
pub present-take : (k : ℕ) (slots : List (Option BlockValue)) (b : BlockValue) → get_or slots k None ≡ Some b
    → ((j : ℕ) → j < k → get_or (map is_some slots) j false ≡ false)
    → present slots ≡ b ∷ present (set slots k None)
present-take k [] b e h = cc
present-take zero (None ∷ slots) b e h = cc
present-take zero (Some x ∷ slots) b e h = cc
present-take (suc k) (None ∷ slots) b e h = present-take k slots b e (λ j lt. h (suc j) (omega arith))
present-take (suc k) (Some x ∷ slots) b e h = let q : true ≡ false = h 0 (omega arith) in cc

pub ArePlaced-take : (k s : ℕ) (slots : List (Option BlockValue)) → ArePlaced s slots → ArePlaced s (set slots k None)
ArePlaced-take k s [] p = tt
ArePlaced-take zero s (None ∷ slots) p = p
ArePlaced-take zero s (Some x ∷ slots) p = p.1
ArePlaced-take (suc k) s (None ∷ slots) p = ArePlaced-take k (s + 1) slots p
ArePlaced-take (suc k) s (Some x ∷ slots) p = (p.0, ArePlaced-take k (s + 1) slots p.1)

pub ArePlaced-put : (k s : ℕ) (slots : List (Option BlockValue)) (b : BlockValue) → ArePlaced s slots → b.number ≡ s + k
    → ArePlaced s (set slots k (Some b))
ArePlaced-put k s [] b p e = tt
ArePlaced-put zero s (None ∷ slots) b p e = (omega (arith, e), p)
ArePlaced-put zero s (Some x ∷ slots) b p e = (omega (arith, e), p.1)
ArePlaced-put (suc k) s (None ∷ slots) b p e = ArePlaced-put k (s + 1) slots b p (omega (arith, e))
ArePlaced-put (suc k) s (Some x ∷ slots) b p e = (p.0, ArePlaced-put k (s + 1) slots b p.1 (omega (arith, e)))

pub present-put : (k s : ℕ) (slots : List (Option BlockValue)) (b : BlockValue) → ArePlaced s slots → k < length slots
    → get_or slots k None ≡ None → b.number ≡ s + k
    → present (set slots k (Some b)) ≡ put_block b (present slots)
present-put k s [] b p h free e = absurd (omega (arith, h))
present-put zero s (None ∷ slots) b p h free e = sym (put_by-first number_of b (present slots) (placed_above (s + 1) b.number slots
    (omega (arith, e)) p))
present-put zero s (Some x ∷ slots) b p h free e = cc
present-put (suc k) s (None ∷ slots) b p h free e = present-put k (s + 1) slots b p (omega (arith, h)) free (omega (arith, e))
present-put (suc k) s (Some x ∷ slots) b p h free e =
    rw (le-ltb b.number x.number (omega (arith, e, p.0))) (ap (λ bs. x ∷ bs) (present-put k (s + 1) slots b p.1 (omega (arith, h)) free
    (omega (arith, e))))

-- ---- the block of a number, out of its slot

-- a list that does not have a number has no block of it, and loses none
pub none_by : (bs : List BlockValue) (n : ℕ) → has (numbers_of bs) n ≡ false → block_by bs n ≡ None
none_by [] n h = refl
none_by (b ∷ bs) n h = go (b.number == n) h (none_by bs n) where
  go : (c : Bool) → (c || has (numbers_of bs) n) ≡ false → (has (numbers_of bs) n ≡ false → block_by bs n ≡ None)
      → cond c (Some b) (block_by bs n) ≡ None
  go true k rest = cc
  go false k rest = rest k

pub without_absent : (bs : List BlockValue) (n : ℕ) → has (numbers_of bs) n ≡ false → without_block n bs ≡ bs
without_absent [] n h = refl
without_absent (b ∷ bs) n h = go (b.number == n) h (without_absent bs n) where
  go : (c : Bool) → (c || has (numbers_of bs) n) ≡ false → (has (numbers_of bs) n ≡ false → without_block n bs ≡ bs)
      → cond (not c) (b ∷ without_block n bs) (without_block n bs) ≡ b ∷ bs
  go true k rest = cc
  go false k rest = ap (λ cs. b ∷ cs) (rest k)

-- slots that begin later do not have the number
has-later : (s n : ℕ) (slots : List (Option BlockValue)) → ArePlaced (s + 1) slots → n < s + 1 → has (numbers_of (present slots)) n ≡ false
has-later s n slots p h = has-below n (numbers_of (present slots)) (placed_above (s + 1) n slots h p)

pub block_by-present : (k s n : ℕ) (slots : List (Option BlockValue)) → ArePlaced s slots → n ≡ s + k
    → block_by (present slots) n ≡ get_or slots k None
block_by-present k s n [] p e = refl
block_by-present zero s n (None ∷ slots) p e = none_by (present slots) n (has-later s n slots p (omega (arith, e)))
block_by-present zero s n (Some x ∷ slots) p e = rw (eq-eqb x.number n (omega (arith, p.0, e))) refl
block_by-present (suc k) s n (None ∷ slots) p e = block_by-present k (s + 1) n slots p (omega (arith, e))
block_by-present (suc k) s n (Some x ∷ slots) p e =
    let ne : x.number ≢ n = omega (arith, p.0, e) in
    rw (ne_eqb x.number n ne) (block_by-present k (s + 1) n slots p.1 (omega (arith, e)))

pub present-out : (k s n : ℕ) (slots : List (Option BlockValue)) → ArePlaced s slots → n ≡ s + k
    → present (set slots k None) ≡ without_block n (present slots)
present-out k s n [] p e = refl
present-out zero s n (None ∷ slots) p e = sym (without_absent (present slots) n (has-later s n slots p (omega (arith, e))))
present-out zero s n (Some x ∷ slots) p e =
    rw (eq-eqb x.number n (omega (arith, p.0, e))) (sym (without_absent (present slots) n (has-later s n slots p.1 (omega (arith, e)))))
present-out (suc k) s n (None ∷ slots) p e = present-out k (s + 1) n slots p (omega (arith, e))
present-out (suc k) s n (Some x ∷ slots) p e =
    let ne : x.number ≢ n = omega (arith, p.0, e) in
    rw (ne_eqb x.number n ne) (ap (λ bs. x ∷ bs) (present-out k (s + 1) n slots p.1 (omega (arith, e))))

pub length-out : (k : ℕ) (slots : List (Option BlockValue)) (b : BlockValue) → get_or slots k None ≡ Some b
    → length (present slots) ≡ length (present (set slots k None)) + 1
length-out k [] b e = cc
length-out zero (None ∷ slots) b e = cc
length-out zero (Some x ∷ slots) b e = omega arith
length-out (suc k) (None ∷ slots) b e = length-out k slots b e
length-out (suc k) (Some x ∷ slots) b e = let q = length-out k slots b e in omega (arith, q)

pub sized-out : (size k : ℕ) (slots : List (Option BlockValue)) → AreSized size (present slots) → AreSized size (present (set slots k None))
sized-out size k [] s = s
sized-out size zero (None ∷ slots) s = s
sized-out size zero (Some x ∷ slots) s = s.1
sized-out size (suc k) (None ∷ slots) s = sized-out size k slots s
sized-out size (suc k) (Some x ∷ slots) s = (s.0, sized-out size k slots s.1)

pub sized_at : (size k : ℕ) (slots : List (Option BlockValue)) (b : BlockValue) → AreSized size (present slots)
    → get_or slots k None ≡ Some b → length b.bytes ≡ size
sized_at size k [] b s e = cc
sized_at size zero (None ∷ slots) b s e = cc
sized_at size zero (Some x ∷ slots) b s e = let q : x ≡ b = cc in rw (← q) s.0
sized_at size (suc k) (None ∷ slots) b s e = sized_at size k slots b s e
sized_at size (suc k) (Some x ∷ slots) b s e = sized_at size k slots b s.1 e

-- ---- slots that are all empty

abbrev pub no_block : Option BlockValue
no_block = None

pub present-none : (count : ℕ) → present (replicate count no_block) ≡ []
present-none zero = refl
present-none (suc count) = present-none count

pub ArePlaced-none : (s count : ℕ) → ArePlaced s (replicate count None)
ArePlaced-none s zero = tt
ArePlaced-none s (suc count) = ArePlaced-none (s + 1) count

pub flags-none : (count : ℕ) → replicate count false ≡ map is_some (replicate count no_block)
flags-none zero = refl
flags-none (suc count) = ap (λ fs. false ∷ fs) (flags-none count)

pub places-none : (low count : ℕ) → places low (replicate count false) ≡ []
places-none low zero = refl
places-none low (suc count) = places-none (low + 1) count

-- ---- slots that are all full

abbrev pub full_slots : ℕ → ℕ → ℕ → List (Option BlockValue)
full_slots size s count = map (λ number. Some (zero_block size number)) (range_with_len s count)

pub present-full : (size s count : ℕ) → present (full_slots size s count) ≡ map (zero_block size) (range_with_len s count)
present-full size s zero = refl
present-full size s (suc count) = ap (λ bs. zero_block size s ∷ bs) (present-full size (s + 1) count)

pub ArePlaced-full : (size s count : ℕ) → ArePlaced s (full_slots size s count)
ArePlaced-full size s zero = tt
ArePlaced-full size s (suc count) = (refl, ArePlaced-full size (s + 1) count)

pub flags-full : (size s count : ℕ) → replicate count true ≡ map is_some (full_slots size s count)
flags-full size s zero = refl
flags-full size s (suc count) = ap (λ bs. true ∷ bs) (flags-full size (s + 1) count)

pub length-full : (size s count : ℕ) → length (full_slots size s count) ≡ count
length-full size s count = length-map (range_with_len s count) (λ number. Some (zero_block size number)) ∙ length-range_with_len s count

pub length-present-full : (size s count : ℕ) → length (present (full_slots size s count)) ≡ count
length-present-full size s count = ap length (present-full size s count) ∙ length-map (range_with_len s count) (zero_block size)
    ∙ length-range_with_len s count
