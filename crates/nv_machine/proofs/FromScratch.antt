-- Each free list is what one scan of all cells and hands leaves.
use Rattle.std.proofs.Common.{◌≡◌, ◌≢◌, ℕ, zero, suc, ◌+◌, ◌-◌, ◌<◌, ◌≤◌, ◌==◌, ◌∙◌, Bool, true, false, List, [], ◌∷◌, Option, None, ap, arith, inl, inr, length, nat_lt, not, refl, subst, sym}
use Rattle.std.specs.Prelude.{◌&&◌, ◌||◌, nat_le, slice_index_or}
use Rattle.std.specs.List.{AllByRecursion, flat_map}
use Rattle.std.proofs.lemmas.Bool.{cases_lt, eqb-true, false≢true, le-leb, le-ltb, lt-leb, lt-ltb, true≢false}
use Rattle.std.proofs.lemmas.List.{get_or_past}
use Rattle.nv_alloc.specs.FreeList.{FreeBlocks}
use Rattle.nv_alloc.specs.Numbers.{has, times}
use Rattle.nv_alloc.proofs.FromScratch.{from_scratch}
use Rattle.nv_alloc.proofs.Lists.{times-append, times-no, times-yes}
use Rattle.nv_base.specs.Homes.{home_start}
use Rattle.nv_base.specs.declared.geometry.GeometryNumbers.{GeometryNumbers}
use Rattle.nv_base.proofs.HomeRanges.{cuts}
use Rattle.nv_machine.specs.Hands.{AreLists, AreNumbers, HandOf}
use Rattle.nv_machine.specs.Locks.{AreLocks, commits_by, held_by}
use Rattle.nv_machine.specs.Numbers.{IdleHaveNothing, all_blocks, free_from_scratch, free_of, used_blocks}
use Rattle.nv_machine.specs.World.{Running, World, actor_at, list_at, no_list}

-- ---- what stands in a list is counted

pub counted : (n : ℕ) (ns : List ℕ) → has ns n ≡ true → 1 ≤ times n ns
counted n [] h = absurd (false≢true h)
counted n (m ∷ ns) h = go (m == n) refl (counted n ns) h where
  go : (b : Bool) → (m == n) ≡ b → (has ns n ≡ true → 1 ≤ times n ns) → (b || has ns n) ≡ true → 1 ≤ times n (m ∷ ns)
  go true q more h = omega (arith, times-yes n m ns q)
  go false q more h = omega (arith, times-no n m ns q, more h)

pub not_counted : (n : ℕ) (ns : List ℕ) → has ns n ≡ false → times n ns ≡ 0
not_counted n [] h = refl
not_counted n (m ∷ ns) h = go (m == n) refl (not_counted n ns) h where
  go : (b : Bool) → (m == n) ≡ b → (has ns n ≡ false → times n ns ≡ 0) → (b || has ns n) ≡ false → times n (m ∷ ns) ≡ 0
  go true q more h = absurd (true≢false h)
  go false q more h = omega (arith, times-no n m ns q, more h)

all_have : (P : ℕ → Type 0) (n : ℕ) (ns : List ℕ) → AllByRecursion P ns → has ns n ≡ true → P n
all_have P n [] all h = absurd (false≢true h)
all_have P n (m ∷ ns) all h = go (m == n) refl (all_have P n ns all.1) h where
  go : (b : Bool) → (m == n) ≡ b → (has ns n ≡ true → P n) → (b || has ns n) ≡ true → P n
  go true q more h = subst P (eqb-true m n q) all.0
  go false q more h = more h

pub none_true : (b : Bool) → (b ≡ true → ⊥) → b ≡ false
none_true true h = absurd (h refl)
none_true false h = refl

-- ---- a number stands in the list of its home alone

all_zero : (n : ℕ) (lists : List FreeBlocks) → ((j : ℕ) → times n (free_of (slice_index_or lists j no_list)) ≡ 0)
    → times n (flat_map free_of lists) ≡ 0
all_zero n [] none = refl
all_zero n (list ∷ lists) none =
    omega (arith, none 0, all_zero n lists (λ j. none (suc j)), times-append n (free_of list) (flat_map free_of lists))

one_list : (n : ℕ) (lists : List FreeBlocks) (cpu : ℕ)
    → ((j : ℕ) → j ≢ cpu → times n (free_of (slice_index_or lists j no_list)) ≡ 0)
    → times n (flat_map free_of lists) ≡ times n (free_of (slice_index_or lists cpu no_list))
one_list n [] cpu none = refl
one_list n (list ∷ lists) zero none =
    let rest = all_zero n lists (λ j. none (suc j) (λ e. absurd (omega (arith, e)))) in
    omega (arith, rest, times-append n (free_of list) (flat_map free_of lists))
one_list n (list ∷ lists) (suc cpu) none =
    let first = none 0 (λ e. absurd (omega (arith, e))) in
    let rest = one_list n lists cpu (λ j ne. none (suc j) (λ e. ne (omega (arith, e)))) in
    omega (arith, first, rest, times-append n (free_of list) (flat_map free_of lists))

-- the numbers of a list are at home there
at_home : (g : GeometryNumbers) (w : World) (cpu n : ℕ) → AreLists g w.shared → cpu < g.cpus
    → has (free_of (list_at w.shared cpu)) n ≡ true
    → (home_start g.blocks g.cpus cpu ≤ n) × (n < home_start g.blocks g.cpus (cpu + 1))
at_home g w cpu n lists inside h =
    let home = lists.each cpu inside in
    let list = list_at w.shared cpu in (
      omega (arith, home.start, all_have (λ k. list.start ≤ k) n (free_of list) home.free.from_start h),
      omega (arith, home.end, all_have (λ k. k < list.end) n (free_of list) home.free.below_end h),
    )

elsewhere : (g : GeometryNumbers) (w : World) (cpu j n : ℕ) → 0 < g.cpus → AreLists g w.shared → cpu < g.cpus → n < g.blocks
    → home_start g.blocks g.cpus cpu ≤ n → n < home_start g.blocks g.cpus (cpu + 1) → j ≢ cpu
    → times n (free_of (list_at w.shared j)) ≡ 0
elsewhere g w cpu j n some lists inside small low high ne = elim (cases_lt j (length w.shared.lists)) [
  | inl lt ↦
      let there : j < g.cpus = omega (arith, lt, lists.cpus) in
      let one = (cuts g.blocks g.cpus some).once n small in
      not_counted n (free_of (list_at w.shared j)) (none_true (has (free_of (list_at w.shared j)) n) (λ h.
      let home = at_home g w j n lists there h in
      ne (one.only j there (record { from = home.0; below = home.1 })
      ∙ sym (one.only cpu inside (record { from = low; below = high })))))
  | inr ge ↦ ap (λ (l : FreeBlocks). times n (free_of l)) (get_or_past w.shared.lists j no_list ge)
]

-- ---- the scan

in_range : (g : GeometryNumbers) (w : World) (cpu n : ℕ) → 0 < g.cpus → AreNumbers g w → cpu < g.cpus
    → home_start g.blocks g.cpus cpu ≤ n → n < home_start g.blocks g.cpus (cpu + 1)
    → has (free_of (list_at w.shared cpu)) n ≡ not (has (used_blocks w) n)
in_range g w cpu n some all inside low high =
    go (has (free_of (list_at w.shared cpu)) n) refl (has (used_blocks w) n) refl where
      small : n < g.blocks
      small = omega (arith, high, rises, (cuts g.blocks g.cpus some).last) where
        up : (k : ℕ) → home_start g.blocks g.cpus (cpu + 1) ≤ home_start g.blocks g.cpus (cpu + 1 + k)
        up zero = let e : cpu + 1 ≡ cpu + 1 + 0 = omega arith in
            let same = ap (home_start g.blocks g.cpus) e in omega (arith, same)
        up (suc k) =
            let e : cpu + 1 + k + 1 ≡ cpu + 1 + suc k = omega arith in
            let same = ap (home_start g.blocks g.cpus) e in
            omega (arith, up k, same, (cuts g.blocks g.cpus some).in_order (cpu + 1 + k))

        rises : home_start g.blocks g.cpus (cpu + 1) ≤ home_start g.blocks g.cpus g.cpus
        rises =
            let e : cpu + 1 + (g.cpus - (cpu + 1)) ≡ g.cpus = omega (arith, inside) in
            let same = ap (home_start g.blocks g.cpus) e in
            omega (arith, up (g.cpus - (cpu + 1)), same)

      once : times n (all_blocks w) ≡ 1
      once = all.once n ∙ (let e : nat_lt n g.blocks ≡ true = lt-ltb n g.blocks small in rw e refl)

      sum : times n (free_of (list_at w.shared cpu)) + times n (used_blocks w) ≡ 1
      sum =
          let one = one_list n w.shared.lists cpu (λ j ne. elsewhere g w cpu j n some all.lists inside small low high ne) in
          omega (arith, one, once, times-append n (flat_map free_of w.shared.lists) (used_blocks w))

      go : (b : Bool) → has (free_of (list_at w.shared cpu)) n ≡ b → (c : Bool) → has (used_blocks w) n ≡ c → b ≡ not c
      go true p true q = absurd (omega (arith, sum, counted n (free_of (list_at w.shared cpu)) p, counted n (used_blocks w) q))
      go true p false q = refl
      go false p true q = refl
      go false p false q =
          absurd (omega (arith, sum, not_counted n (free_of (list_at w.shared cpu)) p, not_counted n (used_blocks w) q))

is_scan : (g : GeometryNumbers) (w : World) (cpu n : ℕ) → 0 < g.cpus → AreNumbers g w → cpu < g.cpus
    → has (free_of (list_at w.shared cpu)) n
    ≡ (nat_le (home_start g.blocks g.cpus cpu) n && nat_lt n (home_start g.blocks g.cpus cpu
    + (home_start g.blocks g.cpus (cpu + 1) - home_start g.blocks g.cpus cpu)) && not (has (used_blocks w) n))
is_scan g w cpu n some all inside = elim (cases_lt n low) [
  | inl lt ↦
      let out : nat_le low n ≡ false = lt-leb low n lt in
      none_true (has (free_of (list_at w.shared cpu)) n) (λ h. let home = at_home g w cpu n all.lists inside h in omega (arith, home.0, lt))
      ∙ sym (rw out refl)
  | inr ge ↦ elim (cases_lt n (low + (high - low))) [
    | inl lt ↦
        let a : nat_le low n ≡ true = le-leb low n ge in
        let b : nat_lt n (low + (high - low)) ≡ true = lt-ltb n (low + (high - low)) lt in
        in_range g w cpu n some all inside ge (omega (arith, lt, order)) ∙ sym (rw (a, b) refl)
    | inr past ↦
        let a : nat_le low n ≡ true = le-leb low n ge in
        let b : nat_lt n (low + (high - low)) ≡ false = le-ltb n (low + (high - low)) past in
        none_true (has (free_of (list_at w.shared cpu)) n)
        (λ h. let home = at_home g w cpu n all.lists inside h in omega (arith, home.1, past, order))
        ∙ sym (rw (a, b) refl)
  ]
] where
  low : ℕ
  low = home_start g.blocks g.cpus cpu

  high : ℕ
  high = home_start g.blocks g.cpus (cpu + 1)

  order : home_start g.blocks g.cpus cpu ≤ home_start g.blocks g.cpus (cpu + 1)
  order = (cuts g.blocks g.cpus some).in_order cpu

-- ---- the laws, of each world

pub is_scanned : (g : GeometryNumbers) (w : World) (cpu : ℕ) → 0 < g.cpus → AreNumbers g w → cpu < g.cpus
    → free_of (list_at w.shared cpu) ≡ free_from_scratch g w cpu
is_scanned g w cpu some all inside =
    from_scratch (has (used_blocks w)) (home_start g.blocks g.cpus cpu)
    (home_start g.blocks g.cpus (cpu + 1) - home_start g.blocks g.cpus cpu)
    (free_of (list_at w.shared cpu)) (all.lists.each cpu inside).free.rising (λ n. is_scan g w cpu n some all inside)

pub has_nothing : (g : GeometryNumbers) (w : World) → AreLocks w → AreNumbers g w → IdleHaveNothing w
has_nothing g w locks all actor is =
    let held = locks.each actor in
    let own : HandOf g (actor_at w actor).hand None =
    subst (λ (o : Option Running). HandOf g (actor_at w actor).hand o) is (all.hands actor) in
    record {
      hand = own;
      locks = λ ino. held.owners ino ∙ ap (λ (o : Option Running). has (held_by o) ino) is;
      commit_lock = held.holder ∙ ap commits_by is;
    }
