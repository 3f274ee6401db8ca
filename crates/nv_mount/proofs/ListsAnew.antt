-- Where each block is at home that no cell has, the free lists are those that a mount makes anew.
use Rattle.std.proofs.Common.{◌≡◌, ◌≢◌, ℕ, zero, suc, ◌+◌, ◌-◌, ◌<◌, ◌≤◌, ◌==◌, Bool, true, false, cond, List, [], ◌∷◌, Option, None, Some, length, map, get_or, arith, refl, ap, sym, subst, ◌∙◌}
use Rattle.std.specs.Prelude.{unwrap_or}
use Rattle.std.specs.List.{AllByRecursion}
use Rattle.std.proofs.Math.Bool.{or-false}
use Rattle.std.proofs.lemmas.Bool.{eqb-false, eqb-true, ne_eqb}
use Rattle.std.proofs.lemmas.List.{ext_get_or}
use Rattle.std.proofs.lemmas.List.FromFn.{get_or-map-range_with_len, length-map-range_with_len}
use Rattle.std.proofs.lemmas.Option.{none-some, same_Some}
use Rattle.nv_alloc.specs.Block.{BlockValue, block_by, numbers_of, zero_block}
use Rattle.nv_alloc.specs.FreeList.{FreeBlocks, IsHomeList, no_list}
use Rattle.nv_alloc.specs.Numbers.{IsRising, has, unused}
use Rattle.nv_alloc.proofs.AllLists.{its_block, none_by}
use Rattle.nv_alloc.proofs.Lists.{has-below}
use Rattle.nv_audit.specs.Image.{ImageValue, image_blocks}
use Rattle.nv_audit.specs.Mounted.{free_block, list_anew, lists_anew, used_anew}
use Rattle.nv_base.specs.Homes.{IsHome, home_start}
use Rattle.nv_base.specs.declared.geometry.GeometryNumbers.{GeometryNumbers}
use Rattle.nv_base.proofs.HomeRanges.{cuts}
use Rattle.nv_mount.specs.Build.{AreFree, used_by}

-- ---- a rising list by the blocks of its numbers

all_more : (P Q : ℕ → Type 0) (ns : List ℕ) → ((m : ℕ) → P m → Q m) → AllByRecursion P ns → AllByRecursion Q ns
all_more P Q [] more all = tt
all_more P Q (n ∷ ns) more all = (more n all.0, all_more P Q ns more all.1)

module _ (is_used : ℕ → Bool) (block : ℕ → BlockValue) where
  abbrev its : ℕ → Option BlockValue
  its n = cond (is_used n) None (Some (block n))

  -- a list without its lowest number begins past it
  past : (low : ℕ) (bs : List BlockValue) → IsRising (numbers_of bs) → AllByRecursion (λ m. low ≤ m) (numbers_of bs)
      → block_by bs low ≡ None → AllByRecursion (λ m. low + 1 ≤ m) (numbers_of bs)
  past low [] rising from none = tt
  past low (b ∷ bs) rising from none = go (b.number == low) refl none where
    go : (c : Bool) → (b.number == low) ≡ c → cond c (Some b) (block_by bs low) ≡ None
        → AllByRecursion (λ m. low + 1 ≤ m) (numbers_of (b ∷ bs))
    go true q e = cc
    go false q e =
        let ne = eqb-false b.number low q in
        let up : low + 1 ≤ b.number = omega (arith, ne, from.0) in
        (up, all_more (λ m. b.number < m) (λ m. low + 1 ≤ m) (numbers_of bs) (λ m lt. omega (arith, lt, up)) rising.0)

  -- the block of the lowest number is the first
  first_is : (low : ℕ) (b : BlockValue) (bs : List BlockValue) → IsRising (numbers_of (b ∷ bs)) → low ≤ b.number
      → block_by (b ∷ bs) low ≡ Some (block low) → b ≡ block low
  first_is low b bs rising from found = go (b.number == low) refl found where
    go : (c : Bool) → (b.number == low) ≡ c → cond c (Some b) (block_by bs low) ≡ Some (block low) → b ≡ block low
    go true q e = same_Some b (block low) e
    go false q e =
        let ne = eqb-false b.number low q in
        let up : low < b.number = omega (arith, ne, from) in
        let none =
        none_by bs low (has-below low (numbers_of bs)
        (all_more (λ m. b.number < m) (λ m. low < m) (numbers_of bs) (λ m lt. omega (arith, lt, up)) rising.0)) in
        absurd (none-some (block low) (sym none ∙ e))

  later_by : (low : ℕ) (b : BlockValue) (bs : List BlockValue) (n : ℕ) → b.number ≡ low → low < n → block_by (b ∷ bs) n ≡ block_by bs n
  later_by low b bs n same lt =
      let ne : b.number ≢ n = omega (arith, same, lt) in
      ap (λ (c : Bool). cond c (Some b) (block_by bs n)) (ne_eqb b.number n ne)

  module _ (own : (n : ℕ) → (block n).number ≡ n) where
    -- it has just the blocks of a range that are not used
    pub from_blocks : (low len : ℕ) (bs : List BlockValue) → IsRising (numbers_of bs) → AllByRecursion (λ m. low ≤ m) (numbers_of bs)
        → AllByRecursion (λ m. m < low + len) (numbers_of bs)
        → ((n : ℕ) → low ≤ n → n < low + len → block_by bs n ≡ cond (is_used n) None (Some (block n)))
        → bs ≡ map block (unused is_used low len)
    from_blocks low zero [] rising from to told = refl
    from_blocks low zero (b ∷ bs) rising from to told = absurd (omega (arith, from.0, to.0))
    from_blocks low (suc len) bs rising from to told =
        step bs rising from to told (is_used low) refl
        (λ cs r f t e. from_blocks (low + 1) len cs r f
        (all_more (λ m. m < low + suc len) (λ m. m < low + 1 + len) (numbers_of cs) (λ m lt. omega (arith, lt)) t)
        (λ n a b. e n a (omega (arith, b))))
      where
        step : (bs : List BlockValue) → IsRising (numbers_of bs) → AllByRecursion (λ m. low ≤ m) (numbers_of bs)
            → AllByRecursion (λ m. m < low + suc len) (numbers_of bs)
            → ((n : ℕ) → low ≤ n → n < low + suc len → block_by bs n ≡ cond (is_used n) None (Some (block n)))
            → (b : Bool) → is_used low ≡ b
            → ((cs : List BlockValue) → IsRising (numbers_of cs) → AllByRecursion (λ m. low + 1 ≤ m) (numbers_of cs)
            → AllByRecursion (λ m. m < low + suc len) (numbers_of cs)
            → ((n : ℕ) → low + 1 ≤ n → n < low + suc len → block_by cs n ≡ cond (is_used n) None (Some (block n)))
            → cs ≡ map block (unused is_used (low + 1) len))
            → bs ≡ map block (unused is_used low (suc len))
        step bs rising from to told true q ih =
            let none : block_by bs low ≡ None =
            told low (omega arith) (omega arith) ∙ ap (λ (c : Bool). cond c None (Some (block low))) q in
            rw q (ih bs rising (past low bs rising from none) to (λ n le lt. told n (omega (arith, le)) lt))
        step [] rising from to told false q ih =
            absurd (none-some (block low) (told low (omega arith) (omega arith) ∙ ap (λ (c : Bool). cond c None (Some (block low))) q))
        step (b ∷ bs) rising from to told false q ih =
            let found : block_by (b ∷ bs) low ≡ Some (block low) =
            told low (omega arith) (omega arith) ∙ ap (λ (c : Bool). cond c None (Some (block low))) q in
            let is : b ≡ block low = first_is low b bs rising from.0 found in
            let same : b.number ≡ low = ap (λ (x : BlockValue). x.number) is ∙ own low in
            let rest : bs ≡ map block (unused is_used (low + 1) len) =
            ih bs rising.1
            (all_more (λ m. b.number < m) (λ m. low + 1 ≤ m) (numbers_of bs) (λ m lt. omega (arith, lt, same)) rising.0) to.1
            (λ n le lt. sym (later_by low b bs n same (omega (arith, le))) ∙ told n (omega (arith, le)) lt) in
            rw q (ap (λ (x : BlockValue). x ∷ bs) is ∙ ap (λ (cs : List BlockValue). block low ∷ cs) rest)

-- ---- the lists of a device

free_number : (blocks : List BlockValue) (size n : ℕ) → (unwrap_or (block_by blocks n) (zero_block size n)).number ≡ n
free_number [] size n = refl
free_number (b ∷ blocks) size n = go (b.number == n) refl (free_number blocks size n) where
  go : (c : Bool) → (b.number == n) ≡ c → (unwrap_or (block_by blocks n) (zero_block size n)).number ≡ n
      → (unwrap_or (cond c (Some b) (block_by blocks n)) (zero_block size n)).number ≡ n
  go true q more = eqb-true b.number n q
  go false q more = more

between : (a b c : ℕ) → a ≤ b → b ≤ c → a ≤ c
between a b c first later = omega (arith, first, later)

under : (a b c : ℕ) → a < b → b ≤ c → a < c
under a b c first later = omega (arith, first, later)

spans : (a b : ℕ) → a ≤ b → a + (b - a) ≡ b
spans a b le = omega (arith, le)

upto : (blocks cpus : ℕ) → 0 < cpus → (k j : ℕ) → j + k ≡ cpus → home_start blocks cpus j ≤ blocks
upto blocks cpus some zero j e =
    let same : cpus ≡ j = omega (arith, e) in
    subst (λ (m : ℕ). home_start blocks cpus m ≤ blocks) same
    (subst (λ (m : ℕ). m ≤ blocks) (sym (cuts blocks cpus some).last) (omega arith))
upto blocks cpus some (suc k) j e =
    between (home_start blocks cpus j) (home_start blocks cpus (j + 1)) blocks ((cuts blocks cpus some).in_order j)
    (upto blocks cpus some k (j + 1) (omega (arith, e)))

module _ (image : ImageValue) (lists : List FreeBlocks) (free : AreFree image (length image.slots) [] lists) (cpu : ℕ)
    (lt : cpu < image.numbers.cpus) where
  abbrev g : GeometryNumbers
  g = image.numbers

  abbrev list : FreeBlocks
  list = get_or lists cpu no_list

  abbrev start : ℕ
  start = home_start g.blocks g.cpus cpu

  abbrev end : ℕ
  end = home_start g.blocks g.cpus (cpu + 1)

  some : 0 < image.numbers.cpus
  some = omega (arith, lt)

  is_home_list : IsHomeList image.numbers cpu (get_or lists cpu no_list)
  is_home_list = free.homes.each cpu lt

  whole : start + (end - start) ≡ end
  whole = spans start end ((cuts g.blocks g.cpus some).in_order cpu)

  its_free : (n : ℕ) → start ≤ n → n < start + (end - start)
      → block_by list.blocks n ≡ cond (has (used_anew image) n) None (Some (free_block image n))
  its_free n low high =
      let below : n < end = subst (λ (m : ℕ). n < m) whole high in
      let last : cpu + 1 + (g.cpus - (cpu + 1)) ≡ g.cpus = omega (arith, lt) in
      let device : n < g.blocks = under n end g.blocks below (upto g.blocks g.cpus some (g.cpus - (cpu + 1)) (cpu + 1) last) in
      let home : IsHome g.blocks g.cpus cpu n = record { from = low; below = below } in
      sym (its_block g lists free.homes n cpu device lt home)
      ∙ free.each n device
      ∙ ap (λ (b : Bool). cond b None (Some (free_block image n))) (or-false (has (used_by image (length image.slots)) n))

  its_blocks : list.blocks ≡ map (free_block image) (unused (has (used_anew image)) start (end - start))
  its_blocks =
      let l = is_home_list in
      from_blocks (has (used_anew image)) (free_block image) (λ n. free_number (image_blocks image) g.block n) start (end - start) list.blocks
      l.free.rising
      (subst (λ (s : ℕ). AllByRecursion (λ m. s ≤ m) (numbers_of list.blocks)) l.start l.free.from_start)
      (subst (λ (s : ℕ). AllByRecursion (λ m. m < s) (numbers_of list.blocks)) (l.end ∙ sym whole) l.free.below_end)
      its_free

  pub its_list : get_or lists cpu no_list ≡ list_anew image.numbers (has (used_anew image)) (free_block image) cpu
  its_list =
      let l = is_home_list in
      λ i. record { start = l.start i; end = l.end i; size = l.size i; blocks = its_blocks i }

-- THE FREE LISTS ANEW: all other blocks are at home
pub lists_free : (image : ImageValue) (lists : List FreeBlocks) → AreFree image (length image.slots) [] lists → lists ≡ lists_anew image
lists_free image lists free =
    ext_get_or no_list lists (lists_anew image)
    (free.homes.cpus
    ∙ sym (length-map-range_with_len (list_anew image.numbers (has (used_anew image)) (free_block image)) 0 image.numbers.cpus))
    (λ cpu lt.
    let low : cpu < image.numbers.cpus = omega (arith, lt, free.homes.cpus) in
    its_list image lists free cpu low
    ∙ sym (get_or-map-range_with_len (list_anew image.numbers (has (used_anew image)) (free_block image)) 0 image.numbers.cpus cpu cpu no_list
    low (omega arith)))
