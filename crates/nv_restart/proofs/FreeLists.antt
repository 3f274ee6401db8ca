-- Free lists from scratch: with the blocks of the mounted cells each number stands once.
use Rattle.std.proofs.Common.{◌≡◌, ℕ, zero, suc, ◌+◌, ◌-◌, ◌<◌, ◌≤◌, ◌==◌, ◌∙◌, ◌⊎◌, inl, inr, Bool, true, false, cond, filter, if◌then◌else◌, nat_lt, not, List, [], ◌∷◌, Option, Some, None, ap, arith, length, map, refl, subst, sym}
use Rattle.std.specs.Prelude.{slice_index_or, unwrap_or}
use Rattle.std.specs.List.{AllByRecursion, flat_map, range_with_len}
use Rattle.std.proofs.lemmas.Bool.{cases_lt, eqb-true, le-ltb, lt-ltb}
use Rattle.nv_alloc.specs.Block.{AreSized, BlockValue, block_by, numbers_of, zero_block}
use Rattle.nv_alloc.specs.FreeList.{FreeBlocks, IsHomeList}
use Rattle.nv_alloc.specs.Numbers.{IsRising, has, times, unused}
use Rattle.nv_alloc.proofs.Lists.{times-append, times-no, times-yes}
use Rattle.nv_audit.specs.Mounted.{list_anew}
use Rattle.nv_base.specs.Homes.{home_start}
use Rattle.nv_base.specs.declared.geometry.GeometryNumbers.{GeometryNumbers}
use Rattle.nv_base.proofs.HomeRanges.{cuts}
use Rattle.nv_cell.specs.Cell.{of_part}
use Rattle.nv_machine.specs.Kept.{AreApart}
use Rattle.nv_machine.specs.Numbers.{free_of}
use Rattle.nv_machine.proofs.EachElement.{all_filter}
use Rattle.nv_machine.proofs.FromScratch.{counted, not_counted}
use Rattle.nv_machine.proofs.Lists.{rising_filter}
use Rattle.nv_machine.proofs.NewNumbers.{below, range_rising, range_times}
use Rattle.nv_machine.proofs.StartPool.{filter_times}

-- ---- parts that are apart

-- a part has the number's block
record HasNumber (k : ℕ) (slots : List (Option BlockValue)) : Type 0 where
  m : ℕ
  block : BlockValue
  at : slice_index_or slots m None ≡ Some block
  number : block.number ≡ k

some_part : (k : ℕ) (slots : List (Option BlockValue)) → 1 ≤ times k (flat_map of_part slots)
    → HasNumber k slots
some_part k [] some = absurd (omega (arith, some))
some_part k (None ∷ slots) some =
    let more = some_part k slots some in record {
      m = suc more.m;
      block = more.block;
      at =
          more.at;
      number = more.number;
    }
some_part k (Some b ∷ slots) some = go (b.number == k) refl (some_part k slots) where
  go : (c : Bool) → (b.number == k) ≡ c → (1 ≤ times k (flat_map of_part slots) → HasNumber k slots)
      → HasNumber k (Some b ∷ slots)
  go true e more = record { m = 0; block = b; at = refl; number = eqb-true b.number k e }
  go false e more =
      let later = more (omega (arith, some, times-no k b.number (flat_map of_part slots) e)) in
      record { m = suc later.m; block = later.block; at = later.at; number = later.number }

pub apart_once : (k : ℕ) (slots : List (Option BlockValue)) → AreApart slots
    → times k (flat_map of_part slots) ≤ 1
apart_once k [] apart = omega arith
apart_once k (None ∷ slots) apart =
    apart_once k slots (λ n m b c e f same. let more =
    apart (suc n) (suc m) b c e f same in omega (arith, more))
apart_once k (Some b ∷ slots) apart =
    go (b.number == k) refl
    (apart_once k slots (λ n m c d e f same. let more =
    apart (suc n) (suc m) c d e f same in omega (arith, more)))
    (cases_lt 0 (times k (flat_map of_part slots)))
  where
    go : (c : Bool) → (b.number == k) ≡ c → times k (flat_map of_part slots) ≤ 1
        → (0 < times k (flat_map of_part slots)) ⊎ (times k (flat_map of_part slots) ≤ 0)
        → times k (flat_map of_part (Some b ∷ slots)) ≤ 1
    go false e more either = omega (arith, more, times-no k b.number (flat_map of_part slots) e)
    go true e more (inr none) = omega (arith, none, times-yes k b.number (flat_map of_part slots) e)
    go true e more (inl some) =
        let later = some_part k slots (omega (arith, some)) in
        let same : b.number ≡ later.block.number = eqb-true b.number k e ∙ sym later.number in
        let zeroth = apart 0 (suc later.m) b later.block refl later.at same in
        absurd (omega (arith, zeroth))

-- so where each part's block stands in a list, it has no number more often than the list
pub fewer_parts : (k : ℕ) (slots : List (Option BlockValue)) (numbers : List ℕ) → AreApart slots
    → ((m : ℕ) (b : BlockValue) → slice_index_or slots m None ≡ Some b
    → has numbers b.number ≡ true)
    → times k (flat_map of_part slots) ≤ times k numbers
fewer_parts k slots numbers apart among = elim (cases_lt 0 (times k (flat_map of_part slots))) [
  | inl some ↦
      let one = some_part k slots (omega (arith, some)) in
      let there =
      counted k numbers
      (subst (λ (n : ℕ). has numbers n ≡ true) one.number (among one.m one.block one.at)) in
      omega (arith, there, apart_once k slots apart)
  | inr none ↦ omega (arith, none)
]

-- ---- free lists

pub its_block : (blocks : List BlockValue) (size n : ℕ)
    → (unwrap_or (block_by blocks n) (zero_block size n)).number ≡ n
its_block [] size n = refl
its_block (b ∷ blocks) size n = go (b.number == n) refl (its_block blocks size n) where
  go : (c : Bool) → (b.number == n) ≡ c
      → (unwrap_or (block_by blocks n) (zero_block size n)).number ≡ n
      → (unwrap_or (cond c (Some b) (block_by blocks n)) (zero_block size n)).number ≡ n
  go true e more = eqb-true b.number n e
  go false e more = more

its_numbers : (block : ℕ → BlockValue) → ((n : ℕ) → (block n).number ≡ n) → (ns : List ℕ)
    → numbers_of (map block ns) ≡ ns
its_numbers block own [] = refl
its_numbers block own (n ∷ ns) = rw (own n, its_numbers block own ns) refl

module _ (g : GeometryNumbers) (some : 0 < g.cpus) (used : List ℕ) (block : ℕ → BlockValue)
    (own : (n : ℕ) → (block n).number ≡ n) where
  abbrev scratch : ℕ → FreeBlocks
  scratch = list_anew g (has used) block

  abbrev start_at : ℕ → ℕ
  start_at cpu = home_start g.blocks g.cpus cpu

  abbrev free_if : ℕ → ℕ → ℕ
  free_if n end = cond (has used n) 0 (below n end)

  list_times : (n cpu : ℕ)
      → times n (free_of (scratch cpu)) + free_if n (start_at cpu) ≡ free_if n (start_at (cpu + 1))
  list_times n cpu =
      let low = start_at cpu in
      let high = start_at (cpu + 1) in
      let order = (cuts g.blocks g.cpus some).in_order cpu in
      let same : low + (high - low) ≡ high = omega (arith, order) in
      let all = range_times n low (high - low) ∙ ap (below n) same in
      go (has used n) refl
      (ap (times n) (its_numbers block own (unused (has used) low (high - low)))
      ∙ filter_times (λ m. not (has used m)) n (range_with_len low (high - low))) all
    where
      go : (b : Bool) → has used n ≡ b
          → times n (free_of (scratch cpu))
          ≡ cond (not (has used n))
          (times n (range_with_len (start_at cpu) (start_at (cpu + 1) - start_at cpu))) 0
          → times n (range_with_len (start_at cpu) (start_at (cpu + 1) - start_at cpu)) + below n
          (start_at cpu) ≡ below n (start_at (cpu + 1))
          → times n (free_of (scratch cpu)) + cond b 0 (below n (start_at cpu))
          ≡ cond b 0 (below n (start_at (cpu + 1)))
      go true e free all =
          let none = free
          ∙ ap (λ (b : Bool).
          cond (not b)
          (times n (range_with_len (start_at cpu) (start_at (cpu + 1) - start_at cpu))) 0)
          e in
          omega (arith, none)
      go false e free all =
          let whole = free
          ∙ ap (λ (b : Bool).
          cond (not b)
          (times n (range_with_len (start_at cpu) (start_at (cpu + 1) - start_at cpu))) 0)
          e in
          omega (arith, whole, all)

  all_times : (n cpu k : ℕ)
      → times n (flat_map free_of (map scratch (range_with_len cpu k))) + free_if n (start_at cpu)
      ≡ free_if n (start_at (cpu + k))
  all_times n cpu zero =
      let e : cpu ≡ cpu + 0 = omega arith in
      let same : free_if n (start_at cpu) ≡ free_if n (start_at (cpu + 0)) =
      ap (λ (c : ℕ). free_if n (start_at c)) e in
      omega (arith, same)
  all_times n cpu (suc k) =
      let next : cpu + 1 + k ≡ cpu + suc k = omega arith in
      let all = all_times n (cpu + 1) k ∙ ap (λ (c : ℕ). free_if n (start_at c)) next in
      omega (
        arith,
        all,
        list_times n cpu,
        times-append n (free_of (scratch cpu))
            (flat_map free_of (map scratch (range_with_len (cpu + 1) k))),
      )

  -- EACH NUMBER STANDS ONCE
  module _ (within : (n : ℕ) → 1 ≤ times n used → n < g.blocks) (once : (n : ℕ)
      → times n used ≤ 1) where
    pub each_once : (n : ℕ)
        → times n (flat_map free_of (map scratch (range_with_len 0 g.cpus))) + times n used
        ≡ (if nat_lt n g.blocks then 1 else 0)
    each_once n =
        let cut = cuts g.blocks g.cpus some in
        let last : start_at (0 + g.cpus) ≡ g.blocks =
        (let e : 0 + g.cpus ≡ g.cpus = omega arith in ap start_at e) ∙ cut.last in
        let all = all_times n 0 g.cpus ∙ ap (free_if n) last in
        let first = ap (free_if n) cut.first in
        let none : nat_lt n 0 ≡ false = le-ltb n 0 (omega arith) in
        go (has used n) refl all (first ∙ ap (λ (b : Bool). cond (has used n) 0 (cond b 1 0)) none)
      where
        go : (b : Bool) → has used n ≡ b
            → times n (flat_map free_of (map scratch (range_with_len 0 g.cpus))) + cond (has used n)
            0 (below n (start_at 0))
            ≡ cond (has used n) 0 (below n g.blocks)
            → cond (has used n) 0 (below n (start_at 0)) ≡ cond (has used n) 0 0
            → times n (flat_map free_of (map scratch (range_with_len 0 g.cpus))) + times n used
            ≡ below n g.blocks
        go true e all first =
            let a = all ∙ ap (λ (b : Bool). cond b 0 (below n g.blocks)) e in
            let there = counted n used e in
            let is : nat_lt n g.blocks ≡ true = lt-ltb n g.blocks (within n there) in
            rw is (omega (arith, a, there, once n))
        go false e all first =
            let a = all ∙ ap (λ (b : Bool). cond b 0 (below n g.blocks)) e in
            let z = first ∙ ap (λ (b : Bool). cond b 0 0) e in
            omega (arith, a, z, not_counted n used e)

  -- a list has its home range
  pub list_home : (cpu : ℕ) → ((n : ℕ) → length (block n).bytes ≡ g.block)
      → IsHomeList g cpu (scratch cpu)
  list_home cpu sized =
      let low = start_at cpu in
      let high = start_at (cpu + 1) in
      let own_numbers = its_numbers block own (unused (has used) low (high - low)) in
      let order = (cuts g.blocks g.cpus some).in_order cpu in
      record {
        start = refl;
        end = refl;
        size = refl;
        free = record {
          rising = subst IsRising (sym own_numbers)
              (rising_filter (λ m. not (has used m)) (range_with_len low (high - low))
              (range_rising low (high - low)));
          from_start = subst (AllByRecursion (λ n. low ≤ n)) (sym own_numbers)
              (filtered (λ n. low ≤ n) (range_with_len low (high - low))
              (from low (high - low) low (omega arith)));
          below_end = subst (AllByRecursion (λ n. n < high)) (sym own_numbers)
              (filtered (λ n. n < high) (range_with_len low (high - low))
              (to low (high - low) high (omega (arith, order))));
          sized = all_sized (unused (has used) low (high - low));
        };
      }
    where
      filtered : (P : ℕ → Type 0) (ns : List ℕ) → AllByRecursion P ns
          → AllByRecursion P (filter (λ m. not (has used m)) ns)
      filtered P ns = all_filter P (λ m. not (has used m)) ns

      from : (a k low : ℕ) → low ≤ a → AllByRecursion (λ n. low ≤ n) (range_with_len a k)
      from a zero low le = tt
      from a (suc k) low le = (le, from (a + 1) k low (omega (arith, le)))

      to : (a k high : ℕ) → a + k ≤ high → AllByRecursion (λ n. n < high) (range_with_len a k)
      to a zero high le = tt
      to a (suc k) high le = (omega (arith, le), to (a + 1) k high (omega (arith, le)))

      all_sized : (ns : List ℕ) → AreSized g.block (map block ns)
      all_sized [] = tt
      all_sized (n ∷ ns) = (sized n, all_sized ns)
