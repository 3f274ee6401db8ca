-- The first CPU that is home of some blocks, by the lists and by the lowest number.
use Rattle.std.proofs.Common.{rules, ◌≡◌, ℕ, zero, suc, ◌+◌, ◌-◌, ◌<◌, ◌≤◌, ◌∙◌, Bool, true, false, List, [], ◌∷◌, Option, Some, None, ap, arith, if◌then◌else◌, length, nat_lt, refl, subst, sym}
use Rattle.std.specs.Prelude.{◌||◌, ◌&&◌, ◌==◌, nat_le}
use Rattle.std.specs.List.{AllByRecursion, list_any}
use Rattle.std.proofs.lemmas.Bool.{le-leb, ltb-false, ltb-true, lt-ltb, false≢true}
use Rattle.nv_alloc.specs.Block.{BlockValue, numbers_of}
use Rattle.nv_alloc.specs.FreeList.{FreeBlocks, is_home}
use Rattle.nv_alloc.specs.Numbers.{has}
use Rattle.nv_base.specs.Homes.{IsHome, home_start}
use Rattle.nv_base.specs.declared.geometry.GeometryNumbers.{GeometryNumbers}
use Rattle.nv_base.proofs.HomeRanges.{cuts}
use Rattle.nv_machine.specs.Reads.{home_from}
use Rattle.nv_machine.proofs.Homes.{AreHomes, homes_from}
use Rattle.nv_alloc.specs.Hand.{IsFirstHomeCpu}
use Rattle.nv_machine.specs.Hands.{AreGiven}
use Rattle.nv_machine.specs.World.{Shared}
use Rattle.nv_steps.specs.Parts.{IsOf}

pub are_homes : (g : GeometryNumbers) (s : Shared) → IsOf g s → AreHomes g 0 s.lists
are_homes g s is =
    homes_from g 0 s.lists (λ k lt.
    let home = is.homes k (omega (arith, lt, is.lists)) in
    let same : k ≡ 0 + k = omega arith in (
      home.start ∙ ap (home_start g.blocks g.cpus) same,
      home.end ∙ ap (λ (n : ℕ). home_start g.blocks g.cpus (n + 1)) same,
    ))

-- a list below all blocks is home of none
pub none_home : (list : FreeBlocks) (bs : List BlockValue) (low : ℕ) → list.end ≤ low → AllByRecursion (λ m. low ≤ m) (numbers_of bs)
    → list_any (λ (b : BlockValue). is_home list b.number) bs ≡ false
none_home list [] low end all = refl
none_home list (b ∷ bs) low end all =
    let off : nat_lt b.number list.end ≡ false = off_end (nat_lt b.number list.end) refl in
    let front : is_home list b.number ≡ false = and_false (nat_le list.start b.number) (nat_lt b.number list.end) off in
    rw front (none_home list bs low end all.1) where
      off_end : (x : Bool) → nat_lt b.number list.end ≡ x → x ≡ false
      off_end true q = let below = ltb-true b.number list.end q in absurd (omega (arith, below, end, all.0))
      off_end false q = refl

      and_false : (x y : Bool) → y ≡ false → (x && y) ≡ false
      and_false true y q = q
      and_false false y q = refl

-- the list of a block's home is home of one
some_home : (list : FreeBlocks) (bs : List BlockValue) (n : ℕ) → list.start ≤ n → n < list.end → has (numbers_of bs) n ≡ true
    → list_any (λ (b : BlockValue). is_home list b.number) bs ≡ true
some_home list [] n start end there = absurd (false≢true there)
some_home list (b ∷ bs) n start end there = go (b.number == n) refl there (some_home list bs n start end) where
  or_true : (x : Bool) {y : Bool} → y ≡ true → (x || y) ≡ true
  or_true true e = refl
  or_true false e = e

  go : (x : Bool) → (b.number == n) ≡ x → (x || has (numbers_of bs) n) ≡ true
      → (has (numbers_of bs) n ≡ true → list_any (λ (c : BlockValue). is_home list c.number) bs ≡ true)
      → (is_home list b.number || list_any (λ (c : BlockValue). is_home list c.number) bs) ≡ true
  go true q t more =
      let same : b.number ≡ n = search rules in
      let first : nat_le list.start b.number ≡ true = le-leb list.start b.number (omega (arith, start, same)) in
      let last : nat_lt b.number list.end ≡ true = lt-ltb b.number list.end (omega (arith, end, same)) in
      rw (first, last) refl
  go false q t more = or_true (is_home list b.number) (more t)

-- ranges begin in the order of their CPUs
pub starts_rise : (blocks cpus c more : ℕ) → 0 < cpus → home_start blocks cpus c ≤ home_start blocks cpus (c + more)
starts_rise blocks cpus c zero some =
    let same : c + 0 ≡ c = omega arith in subst (λ (n : ℕ). home_start blocks cpus c ≤ home_start blocks cpus n) (sym same) (omega arith)
starts_rise blocks cpus c (suc more) some =
    let before = starts_rise blocks cpus c more some in
    let next = (cuts blocks cpus some).in_order (c + more) in
    let same : c + more + 1 ≡ c + suc more = omega arith in
    subst (λ (n : ℕ). home_start blocks cpus c ≤ home_start blocks cpus n) same (omega (arith, before, next))

-- the first list that is home of a block is that of the lowest, from its CPU or a lower one on
from_home : (g : GeometryNumbers) (from c cpu : ℕ) (lists : List FreeBlocks) (bs : List BlockValue) (n : ℕ) → 0 < g.cpus
    → AreHomes g cpu lists → from ≤ c → cpu ≤ c → c < cpu + length lists → has (numbers_of bs) n ≡ true
    → IsHome g.blocks g.cpus c n → AllByRecursion (λ m. home_start g.blocks g.cpus c ≤ m) (numbers_of bs)
    → home_from from cpu lists bs ≡ Some c
from_home g from c cpu [] bs n some homes first low below there home all = absurd (omega (arith, low, below))
from_home g from c cpu (list ∷ lists) bs n some homes first low below there home all =
    go (λ lt. from_home g from c (cpu + 1) lists bs n some homes.1 first lt (omega (arith, below)) there home all) (nat_lt cpu c) refl where
      skip : (cpu + 1 ≤ c → home_from from (cpu + 1) lists bs ≡ Some c) → (x y : Bool) → cpu + 1 ≤ c → y ≡ false
          → (if x then home_from from (cpu + 1) lists bs else if y then Some cpu else home_from from (cpu + 1) lists bs) ≡ Some c
      skip more true y lt q = more lt
      skip more false y lt q = rw q (more lt)

      here : (x y : Bool) → x ≡ false → y ≡ true → cpu ≡ c
          → (if x then home_from from (cpu + 1) lists bs else if y then Some cpu else home_from from (cpu + 1) lists bs) ≡ Some c
      here x y q r same = rw (q, r) (ap Some same)

      go : (cpu + 1 ≤ c → home_from from (cpu + 1) lists bs ≡ Some c) → (x : Bool) → nat_lt cpu c ≡ x
          → (if nat_lt cpu from then home_from from (cpu + 1) lists bs
          else if list_any (λ (b : BlockValue). is_home list b.number) bs then Some cpu else home_from from (cpu + 1) lists bs) ≡ Some c
      go more true q =
          let lt = ltb-true cpu c q in
          let same : cpu + 1 + (c - (cpu + 1)) ≡ c = omega (arith, lt) in
          let mono = subst (λ (m : ℕ). home_start g.blocks g.cpus (cpu + 1) ≤ home_start g.blocks g.cpus m) same
          (starts_rise g.blocks g.cpus (cpu + 1) (c - (cpu + 1)) some) in
          skip more (nat_lt cpu from) (list_any (λ (b : BlockValue). is_home list b.number) bs) (omega (arith, lt))
          (none_home list bs (home_start g.blocks g.cpus c) (omega (arith, mono, homes.0.1)) all)
      go more false q =
          let ge = ltb-false cpu c q in
          let same : cpu ≡ c = omega (arith, ge, low) in
          let start : list.start ≤ n = subst (λ (m : ℕ). list.start ≤ n) same
          (omega (arith, homes.0.0, ap (home_start g.blocks g.cpus) same, home.from)) in
          let end : n < list.end = omega (arith, homes.0.1, ap (λ (m : ℕ). home_start g.blocks g.cpus (m + 1)) same, home.below) in
          here (nat_lt cpu from) (list_any (λ (b : BlockValue). is_home list b.number) bs) (not_below (nat_lt cpu from) refl ge)
          (some_home list bs n start end there) same where
            not_below : (x : Bool) → nat_lt cpu from ≡ x → c ≤ cpu → x ≡ false
            not_below true r ge = let lt = ltb-true cpu from r in absurd (omega (arith, lt, ge, first))
            not_below false r ge = refl

-- a block that is there has a home behind those that are given
behind_given : (g : GeometryNumbers) (from c n : ℕ) (bs : List BlockValue) → 0 < g.cpus → AreGiven g from bs → has (numbers_of bs) n ≡ true
    → n < home_start g.blocks g.cpus (c + 1) → from ≤ c
behind_given g from c n bs some given there below = go (nat_lt c from) refl where
  low : (bs : List BlockValue) → AreGiven g from bs → has (numbers_of bs) n ≡ true → home_start g.blocks g.cpus from ≤ n
  low [] given there = absurd (false≢true there)
  low (b ∷ bs) given there = first (b.number == n) refl there (low bs given.1) where
    first : (x : Bool) → (b.number == n) ≡ x → (x || has (numbers_of bs) n) ≡ true
        → (has (numbers_of bs) n ≡ true → home_start g.blocks g.cpus from ≤ n) → home_start g.blocks g.cpus from ≤ n
    first true q t more = let same : b.number ≡ n = search rules in omega (arith, given.0, same)
    first false q t more = more t

  go : (x : Bool) → nat_lt c from ≡ x → from ≤ c
  go true q =
      let lt = ltb-true c from q in
      let same : c + 1 + (from - (c + 1)) ≡ from = omega (arith, lt) in
      let mono = subst (λ (m : ℕ). home_start g.blocks g.cpus (c + 1) ≤ home_start g.blocks g.cpus m) same
      (starts_rise g.blocks g.cpus (c + 1) (from - (c + 1)) some) in
      absurd (omega (arith, mono, below, low bs given there))
  go false q = ltb-false c from q

-- where no block is of the device, none is at home
none_from : (g : GeometryNumbers) (from cpu : ℕ) (lists : List FreeBlocks) (bs : List BlockValue) → AreHomes g cpu lists
    → cpu + length lists ≤ g.cpus → AllByRecursion (λ m. g.blocks ≤ m) (numbers_of bs) → home_from from cpu lists bs ≡ None
none_from g from cpu [] bs homes few above = refl
none_from g from cpu (list ∷ lists) bs homes few above =
    let some : 0 < g.cpus = omega (arith, few) in
    let rise = starts_rise g.blocks g.cpus (cpu + 1) (g.cpus - (cpu + 1)) some in
    let same : cpu + 1 + (g.cpus - (cpu + 1)) ≡ g.cpus = omega (arith, few) in
    let up = subst (λ (m : ℕ). home_start g.blocks g.cpus (cpu + 1) ≤ home_start g.blocks g.cpus m) same rise in
    go (nat_lt cpu from) (list_any (λ (b : BlockValue). is_home list b.number) bs)
    (none_home list bs g.blocks (omega (arith, up, homes.0.1, (cuts g.blocks g.cpus some).last)) above)
    (none_from g from (cpu + 1) lists bs homes.1 (omega (arith, few)) above) where
      go : (x y : Bool) → y ≡ false → home_from from (cpu + 1) lists bs ≡ None
          → (if x then home_from from (cpu + 1) lists bs else if y then Some cpu else home_from from (cpu + 1) lists bs) ≡ None
      go true y none rest = rest
      go false y none rest = rw none rest

-- the first home of blocks of which those below a CPU are given
pub first_home : (g : GeometryNumbers) (from : ℕ) (s : Shared) (bs : List BlockValue) (found : Option ℕ) → IsOf g s → AreGiven g from bs
    → IsFirstHomeCpu g.blocks g.cpus (numbers_of bs) found → home_from from 0 s.lists bs ≡ found
first_home g from s bs None is given none = none_from g from 0 s.lists bs (are_homes g s is) (omega (arith, is.lists)) none
first_home g from s bs (Some c) is given first =
    let some : 0 < g.cpus = omega (arith, first.0) in
    from_home g from c 0 s.lists bs first.1.0 some (are_homes g s is)
    (behind_given g from c first.1.0 bs some given first.1.1 first.1.2.below) (omega arith) (omega (arith, first.0, is.lists))
    first.1.1 first.1.2 first.2
