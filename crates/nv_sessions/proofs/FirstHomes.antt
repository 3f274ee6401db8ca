-- What is known of blocks by their first home.
use Rattle.std.proofs.Common.{◌≡◌, ℕ, ◌+◌, ◌-◌, ◌<◌, ◌≤◌, ◌∙◌, Bool, true, false, List, [], ◌∷◌, Option, Some, None, arith, if◌then◌else◌, length, nat_lt, refl, subst, sym}
use Rattle.std.specs.Prelude.{◌||◌}
use Rattle.std.specs.List.{list_any}
use Rattle.std.specs.Option.{ForSome}
use Rattle.std.proofs.Math.Nat.{zero-div}
use Rattle.std.proofs.lemmas.Bool.{false≢true, le-leb, ltb-false, ltb-true, true≢false}
use Rattle.nv_alloc.specs.Block.{BlockValue}
use Rattle.nv_alloc.specs.FreeList.{FreeBlocks, is_home}
use Rattle.nv_base.specs.Homes.{home_start}
use Rattle.nv_base.specs.declared.geometry.GeometryNumbers.{GeometryNumbers}
use Rattle.nv_machine.specs.Hands.{AreGiven}
use Rattle.nv_machine.specs.Reads.{home_from}
use Rattle.nv_machine.specs.World.{Shared}
use Rattle.nv_machine.proofs.Homes.{AreHomes}
use Rattle.nv_steps.specs.Parts.{IsOf}
use Rattle.nv_steps.proofs.Homes.{are_homes, starts_rise}
use Rattle.nv_steps.proofs.States.{some_state}
use Rattle.nv_sessions.specs.Underway.{IsFirstHome}

-- ---- given up to a CPU

pub none_given : (g : GeometryNumbers) (bs : List BlockValue) → AreGiven g 0 bs
none_given g [] = tt
none_given g (b ∷ bs) = let zero_first = zero-div g.cpus in (omega (arith, zero_first), none_given g bs)

-- what is given up to a CPU is given up to each one before
pub given_before : (g : GeometryNumbers) (from to : ℕ) (bs : List BlockValue) → 0 < g.cpus → from ≤ to → AreGiven g to bs → AreGiven g from bs
given_before g from to [] some few given = tt
given_before g from to (b ∷ bs) some few given =
    let same : from + (to - from) ≡ to = omega (arith, few) in
    let rise = subst (λ (m : ℕ). home_start g.blocks g.cpus from ≤ home_start g.blocks g.cpus m) same
    (starts_rise g.blocks g.cpus from (to - from) some) in
    (omega (arith, rise, given.0), given_before g from to bs some few given.1)

-- ---- by the lists

past_home : (g : GeometryNumbers) (cpu : ℕ) (list : FreeBlocks) (b : BlockValue) → list.start ≡ home_start g.blocks g.cpus cpu
    → list.end ≡ home_start g.blocks g.cpus (cpu + 1) → home_start g.blocks g.cpus cpu ≤ b.number → is_home list b.number ≡ false
    → home_start g.blocks g.cpus (cpu + 1) ≤ b.number
past_home g cpu list b start end low off = go (nat_lt b.number list.end) refl where
  go : (x : Bool) → nat_lt b.number list.end ≡ x → home_start g.blocks g.cpus (cpu + 1) ≤ b.number
  go true q =
      let first = le-leb list.start b.number (omega (arith, start, low)) in
      let home : is_home list b.number ≡ true = rw (first, q) refl in absurd (true≢false (sym home ∙ off))
  go false q = omega (arith, end, ltb-false b.number list.end q)

-- where none is at home on a CPU, those given up to it are given up to the next
next_given : (g : GeometryNumbers) (cpu : ℕ) (list : FreeBlocks) (bs : List BlockValue) → list.start ≡ home_start g.blocks g.cpus cpu
    → list.end ≡ home_start g.blocks g.cpus (cpu + 1) → AreGiven g cpu bs
    → list_any (λ (b : BlockValue). is_home list b.number) bs ≡ false → AreGiven g (cpu + 1) bs
next_given g cpu list [] start end given none = tt
next_given g cpu list (b ∷ bs) start end given none =
    go (is_home list b.number) refl none (next_given g cpu list bs start end given.1) where
      go : (x : Bool) → is_home list b.number ≡ x → (x || list_any (λ (c : BlockValue). is_home list c.number) bs) ≡ false
          → (list_any (λ (c : BlockValue). is_home list c.number) bs ≡ false → AreGiven g (cpu + 1) bs) → AreGiven g (cpu + 1) (b ∷ bs)
      go true q none more = absurd (true≢false none)
      go false q none more = (past_home g cpu list b start end given.0 q, more none)

some_block : (list : FreeBlocks) (bs : List BlockValue) → list_any (λ (b : BlockValue). is_home list b.number) bs ≡ true → 0 < length bs
some_block list [] is = absurd (false≢true is)
some_block list (b ∷ bs) is = omega arith

not_below : (cpu : ℕ) → nat_lt cpu 0 ≡ false
not_below cpu = go (nat_lt cpu 0) refl where
  go : (x : Bool) → nat_lt cpu 0 ≡ x → x ≡ false
  go true q = let low = ltb-true cpu 0 q in absurd (omega (arith, low))
  go false q = refl

first_from : (g : GeometryNumbers) (cpu : ℕ) (lists : List FreeBlocks) (bs : List BlockValue) (found : Option ℕ) → AreHomes g cpu lists
    → cpu + length lists ≡ g.cpus → AreGiven g cpu bs → home_from 0 cpu lists bs ≡ found → IsFirstHome g bs found
first_from g cpu [] bs found homes many given told =
    let same : cpu ≡ g.cpus = omega (arith, many) in
    subst (IsFirstHome g bs) told (subst (λ (n : ℕ). AreGiven g n bs) same given)
first_from g cpu (list ∷ lists) bs found homes many given told =
    go (nat_lt cpu 0) (list_any (λ (b : BlockValue). is_home list b.number) bs) (not_below cpu) refl told
    (first_from g (cpu + 1) lists bs found homes.1 (omega (arith, many))) where
      go : (x y : Bool) → x ≡ false → list_any (λ (b : BlockValue). is_home list b.number) bs ≡ y
          → (if x then home_from 0 (cpu + 1) lists bs else if y then Some cpu else home_from 0 (cpu + 1) lists bs) ≡ found
          → (AreGiven g (cpu + 1) bs → home_from 0 (cpu + 1) lists bs ≡ found → IsFirstHome g bs found) → IsFirstHome g bs found
      go true y low is told more = absurd (true≢false low)
      go false true low is told more = subst (IsFirstHome g bs) told (some_block list bs is, omega (arith, many), given)
      go false false low is told more = more (next_given g cpu list bs homes.0.0 homes.0.1 given is) told

behind_from : (from cpu : ℕ) (lists : List FreeBlocks) (bs : List BlockValue) (found : Option ℕ) → home_from from cpu lists bs ≡ found
    → ForSome found (λ home. from ≤ home)
behind_from from cpu [] bs found told =
    subst (λ (o : Option ℕ). ForSome o (λ home. from ≤ home)) told (λ home is. absurd (cc))
behind_from from cpu (list ∷ lists) bs found told =
    go (nat_lt cpu from) (list_any (λ (b : BlockValue). is_home list b.number) bs) refl told (behind_from from (cpu + 1) lists bs found) where
      go : (x y : Bool) → nat_lt cpu from ≡ x
          → (if x then home_from from (cpu + 1) lists bs else if y then Some cpu else home_from from (cpu + 1) lists bs) ≡ found
          → (home_from from (cpu + 1) lists bs ≡ found → ForSome found (λ home. from ≤ home)) → ForSome found (λ home. from ≤ home)
      go true y q told more = more told
      go false true q told more =
          let behind = ltb-false cpu from q in
          subst (λ (o : Option ℕ). ForSome o (λ home. from ≤ home)) told (λ home is. let same : cpu ≡ home = cc in omega (arith, behind, same))
      go false false q told more = more told

-- ---- what is told by each state of the device

module _ (g : GeometryNumbers) (bs : List BlockValue) (found : Option ℕ) where
  -- the home that is told is the first of all
  pub first_told : ((s : Shared) → IsOf g s → home_from 0 0 s.lists bs ≡ found) → IsFirstHome g bs found
  first_told told =
      let there = some_state g [] tt tt in
      let s = there.shared in
      first_from g 0 s.lists bs found (are_homes g s there.is_of) (omega (arith, there.is_of.lists)) (none_given g bs) (told s there.is_of)

  -- it is behind the CPUs up to which all are given
  pub behind_told : (from : ℕ) → ((s : Shared) → IsOf g s → home_from from 0 s.lists bs ≡ found) → ForSome found (λ home. from ≤ home)
  behind_told from told =
      let there = some_state g [] tt tt in behind_from from 0 there.shared.lists bs found (told there.shared there.is_of)

-- up to the first home all are given
pub given_up_to : (g : GeometryNumbers) (bs : List BlockValue) (found : Option ℕ) (to : ℕ) → 0 < g.cpus → to ≤ g.cpus → IsFirstHome g bs found
    → ForSome found (λ home. to ≤ home) → AreGiven g to bs
given_up_to g bs None to some few first behind = given_before g to g.cpus bs some few first
given_up_to g bs (Some home) to some few first behind = given_before g to home bs some (behind home refl) first.2
