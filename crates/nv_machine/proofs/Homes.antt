-- Blocks that go home, CPU by CPU, until none is left.
use Rattle.std.proofs.Common.{◌≡◌, ℕ, suc, ◌+◌, ◌<◌, ◌≤◌, ◌∙◌, Bool, true, false, List, [], ◌∷◌, Option, Some, None, ap, arith, filter, if◌then◌else◌, length, nat_lt, not, refl, subst, sym}
use Rattle.std.specs.Prelude.{◌||◌, nat_le, slice_index_or}
use Rattle.std.specs.List.{AllByRecursion, list_any}
use Rattle.std.proofs.lemmas.Bool.{le-leb, ltb-false, ltb-true, false≢true}
use Rattle.nv_alloc.specs.Block.{AreSized, BlockValue, numbers_of}
use Rattle.nv_alloc.specs.FreeList.{FreeBlocks, IsHomeList, is_home}
use Rattle.nv_alloc.specs.Giving.{not_taken}
use Rattle.nv_alloc.specs.Numbers.{times}
use Rattle.nv_alloc.proofs.GivingLemmas.{goes_home}
use Rattle.nv_base.specs.Homes.{home_start}
use Rattle.nv_base.specs.declared.geometry.GeometryNumbers.{GeometryNumbers}
use Rattle.nv_base.proofs.HomeRanges.{cuts}
use Rattle.nv_machine.specs.Hands.{AreGiven, AreLists}
use Rattle.nv_machine.specs.Reads.{home_from}
use Rattle.nv_machine.specs.World.{Shared, no_list}

-- ---- homes along the lists

-- lists from a CPU on have their home ranges
abbrev pub AreHomes : GeometryNumbers → ℕ → List FreeBlocks → Type 0
AreHomes g cpu [] = Unit {0}
AreHomes g cpu (list ∷ lists) =
    ((list.start ≡ home_start g.blocks g.cpus cpu) × (list.end ≡ home_start g.blocks g.cpus (cpu + 1))) × AreHomes g (cpu + 1) lists

pub homes_from : (g : GeometryNumbers) (cpu : ℕ) (lists : List FreeBlocks)
    → ((k : ℕ) → k < length lists → ((slice_index_or lists k no_list).start ≡ home_start g.blocks g.cpus (cpu + k))
    × ((slice_index_or lists k no_list).end ≡ home_start g.blocks g.cpus (cpu + k + 1))) → AreHomes g cpu lists
homes_from g cpu [] each = tt
homes_from g cpu (list ∷ lists) each =
    let here = each 0 (omega arith) in
    let same : cpu + 0 ≡ cpu = omega arith in (
      (
        here.0 ∙ ap (home_start g.blocks g.cpus) same,
        here.1 ∙ ap (λ (n : ℕ). home_start g.blocks g.cpus (n + 1)) same,
      ),
      homes_from g (cpu + 1) lists (λ k lt.
          let there = each (suc k) (omega (arith, lt)) in
          let more : cpu + suc k ≡ cpu + 1 + k = omega arith in (
            there.0 ∙ ap (home_start g.blocks g.cpus) more,
            there.1 ∙ ap (λ (n : ℕ). home_start g.blocks g.cpus (n + 1)) more,
          )),
    )

pub are_homes : (g : GeometryNumbers) (s : Shared) → AreLists g s → AreHomes g 0 s.lists
are_homes g s lists =
    homes_from g 0 s.lists (λ k lt.
    let home = lists.each k (omega (arith, lt, lists.cpus)) in
    let same : k ≡ 0 + k = omega arith in (
      home.start ∙ ap (home_start g.blocks g.cpus) same,
      home.end ∙ ap (λ (n : ℕ). home_start g.blocks g.cpus (n + 1)) same,
    ))

-- ---- what is given

or_none : (a b : Bool) → (a || b) ≡ false → (a ≡ false) × (b ≡ false)
or_none true b h = cc
or_none false b h = (refl, h)

past_home : (list : FreeBlocks) (n from next : ℕ) → list.start ≡ from → list.end ≡ next → from ≤ n → is_home list n ≡ false → next ≤ n
past_home list n from next start end low h = go (nat_lt n list.end) refl where
  go : (b : Bool) → nat_lt n list.end ≡ b → next ≤ n
  go true q =
      let first : nat_le list.start n ≡ true = le-leb list.start n (omega (arith, start, low)) in
      let z : true ≡ false = sym (rw (first, q) refl) ∙ h in absurd (false≢true (sym z))
  go false q = omega (arith, end, ltb-false n list.end q)

-- where none is at home on a CPU, those given up to it are given up to the next
next_given : (g : GeometryNumbers) (cpu : ℕ) (list : FreeBlocks) (bs : List BlockValue) → list.start ≡ home_start g.blocks g.cpus cpu
    → list.end ≡ home_start g.blocks g.cpus (cpu + 1) → AreGiven g cpu bs
    → list_any (λ (b : BlockValue). is_home list b.number) bs ≡ false → AreGiven g (cpu + 1) bs
next_given g cpu list [] start end given none = tt
next_given g cpu list (b ∷ bs) start end given none =
    let both = or_none (is_home list b.number) (list_any (λ (c : BlockValue). is_home list c.number) bs) none in (
      past_home list b.number (home_start g.blocks g.cpus cpu) (home_start g.blocks g.cpus (cpu + 1)) start end given.0 both.0,
      next_given g cpu list bs start end given.1 both.1,
    )

-- what is found: a CPU up to which all are given, or none, where all are
abbrev pub IsFound : GeometryNumbers → ℕ → List BlockValue → Option ℕ → Type 0
IsFound g cpus bs (Some cpu) = (cpu < cpus) × AreGiven g cpu bs
IsFound g cpus bs None = AreGiven g cpus bs

found_from : (g : GeometryNumbers) (from cpu cpus : ℕ) (lists : List FreeBlocks) (bs : List BlockValue) → AreHomes g cpu lists
    → cpu + length lists ≡ cpus → from ≤ cpus → (cpu ≤ from → AreGiven g from bs) → (from ≤ cpu → AreGiven g cpu bs)
    → IsFound g cpus bs (home_from from cpu lists bs)
found_from g from cpu cpus [] bs homes many few before behind =
    let same : cpu ≡ cpus = omega (arith, many) in
    subst (λ (n : ℕ). AreGiven g n bs) same (behind (omega (arith, many, few)))
found_from g from cpu cpus (list ∷ lists) bs homes many few before behind =
    go (nat_lt cpu from) refl (list_any (λ (b : BlockValue). is_home list b.number) bs) refl
    (found_from g from (cpu + 1) cpus lists bs homes.1 (omega (arith, many)) few) where
      go : (b : Bool) → nat_lt cpu from ≡ b → (c : Bool) → list_any (λ (b : BlockValue). is_home list b.number) bs ≡ c
          → ((cpu + 1 ≤ from → AreGiven g from bs) → (from ≤ cpu + 1 → AreGiven g (cpu + 1) bs)
          → IsFound g cpus bs (home_from from (cpu + 1) lists bs))
          → IsFound g cpus bs (if b then home_from from (cpu + 1) lists bs else if c then Some cpu else home_from from (cpu + 1) lists bs)
      go true q c r more =
          let low = ltb-true cpu from q in
          more (λ le. before (omega (arith, low)))
          (λ le. let same : from ≡ cpu + 1 = omega (arith, le, low) in
          subst (λ (n : ℕ). AreGiven g n bs) same (before (omega (arith, low))))
      go false q true r more = (omega (arith, many), behind (ltb-false cpu from q))
      go false q false r more =
          let high = ltb-false cpu from q in
          let next = next_given g cpu list bs homes.0.0 homes.0.1 (behind high) r in
          more (λ le. absurd (omega (arith, le, high))) (λ le. next)

pub found_home : (g : GeometryNumbers) (from : ℕ) (s : Shared) (bs : List BlockValue) → AreLists g s → from ≤ g.cpus → AreGiven g from bs
    → IsFound g g.cpus bs (home_from from 0 s.lists bs)
found_home g from s bs lists few given =
    found_from g from 0 g.cpus s.lists bs (are_homes g s lists) (omega (arith, lists.cpus)) few (λ le. given)
    (λ le. let same : from ≡ 0 = omega (arith, le) in subst (λ (n : ℕ). AreGiven g n bs) same given)

-- ---- the ends of the ranges

-- numbers that blocks have
abbrev pub AreBelow : ℕ → List BlockValue → Type 0
AreBelow many blocks = AllByRecursion (λ (b : BlockValue). b.number < many) blocks

pub given_none : (g : GeometryNumbers) (bs : List BlockValue) → 0 < g.cpus → AreGiven g 0 bs
given_none g [] some = tt
given_none g (b ∷ bs) some =
    let first = (cuts g.blocks g.cpus some).first in
    (omega (arith, first), given_none g bs some)

pub given_all_home : (g : GeometryNumbers) (bs : List BlockValue) → 0 < g.cpus → AreBelow g.blocks bs → AreGiven g g.cpus bs → bs ≡ []
given_all_home g [] some below given = refl
given_all_home g (b ∷ bs) some below given =
    let last = (cuts g.blocks g.cpus some).last in absurd (omega (arith, last, below.0, given.0))

-- ---- what a list does not take

kept_given : (g : GeometryNumbers) (cpu : ℕ) (list : FreeBlocks) (bs : List BlockValue) → list.start ≡ home_start g.blocks g.cpus cpu
    → list.end ≡ home_start g.blocks g.cpus (cpu + 1) → AreGiven g cpu bs
    → AreGiven g (cpu + 1) (filter (λ (b : BlockValue). not (is_home list b.number)) bs)
kept_given g cpu list [] start end given = tt
kept_given g cpu list (b ∷ bs) start end given = go (is_home list b.number) refl (kept_given g cpu list bs start end given.1) where
  go : (c : Bool) → is_home list b.number ≡ c → AreGiven g (cpu + 1) (filter (λ (b : BlockValue). not (is_home list b.number)) bs)
      → AreGiven g (cpu + 1) (if not c then b ∷ filter (λ (b : BlockValue). not (is_home list b.number)) bs
      else filter (λ (b : BlockValue). not (is_home list b.number)) bs)
  go true q more = more
  go false q more =
      (past_home list b.number (home_start g.blocks g.cpus cpu) (home_start g.blocks g.cpus (cpu + 1)) start end given.0 q, more)

-- the same of what a list keeps of them
pub kept_is_given : (g : GeometryNumbers) (cpu : ℕ) (list : FreeBlocks) (bs : List BlockValue) → list.start ≡ home_start g.blocks g.cpus cpu
    → list.end ≡ home_start g.blocks g.cpus (cpu + 1) → list.size ≡ g.block → AreSized g.block bs
    → ((n : ℕ) → times n (numbers_of bs) + times n (numbers_of list.blocks) ≤ 1) → AreGiven g cpu bs
    → AreGiven g (cpu + 1) (not_taken list bs)
kept_is_given g cpu list bs start end size sized once given =
    let goes = goes_home list bs (subst (λ (n : ℕ). AreSized n bs) (sym size) sized) once in
    subst (λ (l : List BlockValue). AreGiven g (cpu + 1) l) (sym goes.kept) (kept_given g cpu list bs start end given)

pub all_given : (g : GeometryNumbers) (cpu : ℕ) (list : FreeBlocks) (bs : List BlockValue) → IsHomeList g cpu list → AreSized g.block bs
    → ((n : ℕ) → times n (numbers_of bs) + times n (numbers_of list.blocks) ≤ 1) → AreGiven g cpu bs
    → AreGiven g (cpu + 1) (not_taken list bs)
all_given g cpu list bs home sized once given = kept_is_given g cpu list bs home.start home.end home.size sized once given
