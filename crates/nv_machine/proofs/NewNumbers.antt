-- A new world: each block number stands once, and lists are in order.
use Rattle.std.proofs.Common.{◌≡◌, ℕ, zero, suc, ◌+◌, ◌-◌, ◌*◌, ◌<◌, ◌≤◌, ◌==◌, ◌∙◌, Bool, true, false, List, [], ◌∷◌, ap, arith, drop, if◌then◌else◌, inl, inr, length, map, nat_lt, refl, replicate, subst, sym}
use Rattle.std.specs.Prelude.{slice_index_or}
use Rattle.std.specs.List.{AllByRecursion, flat_map, range_with_len}
use Rattle.std.proofs.lemmas.Bool.{cases_lt, eqb-false, eqb-true, le-ltb, lt-ltb}
use Rattle.std.proofs.Math.Nat.{one-mul}
use Rattle.std.proofs.lemmas.Nat.{le-div}
use Rattle.std.proofs.lemmas.List.{length-replicate}
use Rattle.std.proofs.lemmas.List.FromFn.{get_or-map-range_with_len, length-map-range_with_len}
use Rattle.nv_alloc.specs.Block.{AreSized, numbers_of, zero_block, zero_blocks}
use Rattle.nv_alloc.specs.FreeList.{FreeBlocks, IsHomeList}
use Rattle.nv_alloc.specs.Numbers.{IsEachOnce, IsRising, times}
use Rattle.nv_alloc.proofs.Lists.{times-append, times-cons, times-no, times-yes}
use Rattle.nv_base.specs.Homes.{home_start}
use Rattle.nv_base.specs.Limits.{IsWithinLimits}
use Rattle.nv_base.specs.declared.geometry.GeometryNumbers.{GeometryNumbers}
use Rattle.nv_base.proofs.HomeRanges.{cuts}
use Rattle.nv_cell.specs.Cell.{empty_cell, stored_in}
use Rattle.nv_machine.specs.Format.{formatted, full_list, without_lowest}
use Rattle.nv_machine.specs.Hands.{AreLists}
use Rattle.nv_machine.specs.Numbers.{all_blocks, free_of, held_by_actor}
use Rattle.nv_machine.specs.World.{idle, no_list}
use Rattle.nv_machine.proofs.BlockNumbers.{all_times}
use Rattle.nv_machine.proofs.SortedLists.{less_free}

-- ---- how often a number stands in ranges that go on from one another

-- once if it is below
abbrev pub below : ℕ → ℕ → ℕ
below n end = if nat_lt n end then 1 else 0

one_more : (n a : ℕ) → below n a + times n (a ∷ []) ≡ below n (a + 1)
one_more n a = go (a == n) refl where
  go : (b : Bool) → (a == n) ≡ b → below n a + times n (a ∷ []) ≡ below n (a + 1)
  go true q =
      let e = eqb-true a n q in
      let out : nat_lt n a ≡ false = le-ltb n a (omega (arith, e)) in
      let in_now : nat_lt n (a + 1) ≡ true = lt-ltb n (a + 1) (omega (arith, e)) in
      let one : times n (a ∷ []) ≡ 1 + times n [] = times-yes n a [] q in
      rw (out, in_now) (omega (arith, one))
  go false q =
      let e = eqb-false a n q in
      let none : times n (a ∷ []) ≡ times n [] = times-no n a [] q in
      elim (cases_lt n a) [
        | inl lt ↦
            let was : nat_lt n a ≡ true = lt-ltb n a lt in
            let is : nat_lt n (a + 1) ≡ true = lt-ltb n (a + 1) (omega (arith, lt)) in
            rw (was, is) (omega (arith, none))
        | inr ge ↦
            let was : nat_lt n a ≡ false = le-ltb n a ge in
            let is : nat_lt n (a + 1) ≡ false = le-ltb n (a + 1) (omega (arith, ge, e)) in
            rw (was, is) (omega (arith, none))
      ]

pub range_times : (n a k : ℕ) → times n (range_with_len a k) + below n a ≡ below n (a + k)
range_times n a zero =
    let e : a ≡ a + 0 = omega arith in
    let same : below n a ≡ below n (a + 0) = ap (below n) e in
    omega (arith, same)
range_times n a (suc k) =
    let next : a + 1 + k ≡ a + suc k = omega arith in
    let all = range_times n (a + 1) k ∙ ap (below n) next in
    omega (arith, all, one_more n a, times-cons n a (range_with_len (a + 1) k))

zero_numbers : (size : ℕ) (numbers : List ℕ) → numbers_of (map (zero_block size) numbers) ≡ numbers
zero_numbers size [] = refl
zero_numbers size (n ∷ numbers) = ap (λ (l : List ℕ). n ∷ l) (zero_numbers size numbers)

full_times : (g : GeometryNumbers) (n cpu : ℕ) → 0 < g.cpus
    → times n (free_of (full_list g cpu)) + below n (home_start g.blocks g.cpus cpu) ≡ below n (home_start g.blocks g.cpus (cpu + 1))
full_times g n cpu some =
    let low = home_start g.blocks g.cpus cpu in
    let high = home_start g.blocks g.cpus (cpu + 1) in
    let order = (cuts g.blocks g.cpus some).in_order cpu in
    let same : low + (high - low) ≡ high = omega (arith, order) in
    let numbers = ap (times n) (zero_numbers g.block (range_with_len low (high - low))) in
    let all = range_times n low (high - low) ∙ ap (below n) same in
    omega (arith, numbers, all)

lists_times : (g : GeometryNumbers) (n cpu k : ℕ) → 0 < g.cpus
    → times n (flat_map free_of (map (full_list g) (range_with_len cpu k))) + below n (home_start g.blocks g.cpus cpu)
    ≡ below n (home_start g.blocks g.cpus (cpu + k))
lists_times g n cpu zero some =
    let e : cpu ≡ cpu + 0 = omega arith in
    let same : below n (home_start g.blocks g.cpus cpu) ≡ below n (home_start g.blocks g.cpus (cpu + 0)) =
    ap (λ (c : ℕ). below n (home_start g.blocks g.cpus c)) e in
    omega (arith, same)
lists_times g n cpu (suc k) some =
    let next : cpu + 1 + k ≡ cpu + suc k = omega arith in
    let all = lists_times g n (cpu + 1) k some ∙ ap (λ (c : ℕ). below n (home_start g.blocks g.cpus c)) next in
    omega (
      arith,
      all,
      full_times g n cpu some,
      times-append n (free_of (full_list g cpu)) (flat_map free_of (map (full_list g) (range_with_len (cpu + 1) k))),
    )

-- block 0 is the lowest of the first list
zero_first : (size low len : ℕ) → low ≡ 0 → 0 < len → (n : ℕ)
    → times n (numbers_of (drop 1 (zero_blocks size low len))) + times n (0 ∷ []) ≡ times n (numbers_of (zero_blocks size low len))
zero_first size low zero is some n = absurd (omega (arith, some))
zero_first size low (suc len) is some n =
    let first = ap (λ (m : ℕ). times n (m ∷ [])) is in
    omega (arith, first, times-cons n low (numbers_of (zero_blocks size (low + 1) len)))

without_times : (g : GeometryNumbers) (n k : ℕ) → 0 < k → 0 < g.cpus → g.cpus ≤ g.blocks
    → times n (flat_map free_of (without_lowest (map (full_list g) (range_with_len 0 k)))) + times n (0 ∷ [])
    ≡ times n (flat_map free_of (map (full_list g) (range_with_len 0 k)))
without_times g n zero some cpus blocks = absurd (omega (arith, some))
without_times g n (suc k) some cpus blocks =
    let rest = flat_map free_of (map (full_list g) (range_with_len (0 + 1) k)) in
    let first = (cuts g.blocks g.cpus cpus).first in
    let one : 1 ≤ home_start g.blocks g.cpus (0 + 1) = one_block in
    let e = zero_first g.block (home_start g.blocks g.cpus 0) (home_start g.blocks g.cpus (0 + 1) - home_start g.blocks g.cpus 0)
    first (omega (arith, one, first)) n in
    omega (arith, e, times-append n (numbers_of (drop 1 (full_list g 0).blocks)) rest, times-append n (free_of (full_list g 0)) rest) where
      one_block : 1 ≤ home_start g.blocks g.cpus (0 + 1)
      one_block = le-div 1 (1 * g.blocks) g.cpus cpus (omega (arith, one-mul g.cpus, one-mul g.blocks, blocks))

-- ---- what is in no cell and no hand

no_stored : (g : GeometryNumbers) (k : ℕ) → flat_map stored_in (replicate k (empty_cell g.block g.page 1 0)) ≡ []
no_stored g zero = refl
no_stored g (suc k) = no_stored g k

no_held : (k : ℕ) → flat_map held_by_actor (replicate k idle) ≡ []
no_held zero = refl
no_held (suc k) = no_held k

pub new_once : (g : GeometryNumbers) → IsWithinLimits g → IsEachOnce g.blocks (all_blocks (formatted g))
new_once g within n =
    let some : 0 < g.cpus = omega (arith, within.some_cpus) in
    let cut = cuts g.blocks g.cpus some in
    let all = lists_times g n 0 g.cpus some in
    let start = ap (below n) cut.first in
    let end : below n (home_start g.blocks g.cpus (0 + g.cpus)) ≡ below n g.blocks =
    ap (λ (c : ℕ). below n (home_start g.blocks g.cpus c)) (let e : 0 + g.cpus ≡ g.cpus = omega arith in e) ∙ ap (below n) cut.last in
    let none : nat_lt n 0 ≡ false = le-ltb n 0 (omega arith) in
    let nothing : below n 0 ≡ 0 = rw none refl in
    let lists = without_times g n g.cpus some some within.cpus_have_blocks in
    let stored = ap (times n) (no_stored g (g.inodes - 1)) in
    let held = ap (times n) (no_held g.actors) in
    let root = times-append n (0 ∷ []) (flat_map stored_in (replicate (g.inodes - 1) (empty_cell g.block g.page 1 0))) in
    let total : times n (all_blocks (formatted g)) ≡ below n g.blocks =
    omega (arith, all, start, end, nothing, lists, stored, held, root, all_times n (formatted g)) in
    total

-- ---- lists in order

range_above : (a m k : ℕ) → m < a → AllByRecursion (λ n. m < n) (range_with_len a k)
range_above a m zero lt = tt
range_above a m (suc k) lt = (lt, range_above (a + 1) m k (omega (arith, lt)))

pub range_rising : (a k : ℕ) → IsRising (range_with_len a k)
range_rising a zero = tt
range_rising a (suc k) = (range_above (a + 1) a k (omega arith), range_rising (a + 1) k)

range_from : (least a k : ℕ) → least ≤ a → AllByRecursion (λ n. least ≤ n) (range_with_len a k)
range_from least a zero le = tt
range_from least a (suc k) le = (le, range_from least (a + 1) k (omega (arith, le)))

range_below : (end a k : ℕ) → a + k ≤ end → AllByRecursion (λ n. n < end) (range_with_len a k)
range_below end a zero le = tt
range_below end a (suc k) le = (omega (arith, le), range_below end (a + 1) k (omega (arith, le)))

zeros_sized : (size : ℕ) (numbers : List ℕ) → AreSized size (map (zero_block size) numbers)
zeros_sized size [] = tt
zeros_sized size (n ∷ numbers) = (length-replicate size 0, zeros_sized size numbers)

full_home : (g : GeometryNumbers) (cpu : ℕ) → 0 < g.cpus → IsHomeList g cpu (full_list g cpu)
full_home g cpu some =
    let low = home_start g.blocks g.cpus cpu in
    let high = home_start g.blocks g.cpus (cpu + 1) in
    let order = (cuts g.blocks g.cpus some).in_order cpu in
    let numbers = range_with_len low (high - low) in
    let same : numbers ≡ numbers_of (full_list g cpu).blocks = sym (zero_numbers g.block numbers) in
    record {
      start = refl;
      end = refl;
      size = refl;
      free = record {
        rising = subst IsRising same (range_rising low (high - low));
        from_start = subst (λ (l : List ℕ). AllByRecursion (λ n. low ≤ n) l) same (range_from low low (high - low) (omega arith));
        below_end = subst (λ (l : List ℕ). AllByRecursion (λ n. n < high) l) same
            (range_below high low (high - low) (omega (arith, order)));
        sized = zeros_sized g.block numbers;
      };
    }

without_home : (g : GeometryNumbers) (k : ℕ) (lists : List FreeBlocks) → IsHomeList g k (slice_index_or lists k no_list)
    → IsHomeList g k (slice_index_or (without_lowest lists) k no_list)
without_home g k [] h = h
without_home g zero (list ∷ lists) h = less_free g 0 1 list h
without_home g (suc k) (list ∷ lists) h = h

without_count : (lists : List FreeBlocks) → length (without_lowest lists) ≡ length lists
without_count [] = refl
without_count (list ∷ lists) = refl

pub new_lists : (g : GeometryNumbers) → 0 < g.cpus → AreLists g (formatted g).shared
new_lists g some = record {
  cpus = without_count (map (full_list g) (range_with_len 0 g.cpus)) ∙ length-map-range_with_len (full_list g) 0 g.cpus;
  each = λ cpu lt. without_home g cpu (map (full_list g) (range_with_len 0 g.cpus))
      (subst (λ (l : FreeBlocks). IsHomeList g cpu l)
      (sym (get_or-map-range_with_len (full_list g) 0 g.cpus cpu cpu no_list lt (omega arith))) (full_home g cpu some));
}
