-- The plain world's copies go in step with the living snapshots: they have their numbers and their pins.
use Rattle.std.proofs.Common.{Bool, IsSome, List, None, Option, Some, [], ap, arith, cond, false, filter, if◌then◌else◌, length, map, not, refl, subst, suc, sym, true, ℕ, ◌++◌, ◌+◌, ◌-◌, ◌<◌, ◌==◌, ◌∷◌, ◌≡◌}
use Rattle.std.proofs.lemmas.Bool.{eqb-false, eqb-true}
use Rattle.std.specs.Option.{option_map, option_or}
use Rattle.nv_base.specs.declared.numbers.Handle.{Handle}
use Rattle.nv_calls.specs.Plain.{node_in}
use Rattle.nv_entry.specs.declared.node.NodeCopy.{NodeCopy}
use Rattle.nv_epoch.specs.SnapList.{Snapshots as Living, living_without, pins_at, pins_of, repinned, with_pins}
use Rattle.nv_epoch.specs.declared.snapshot.Snapshot.{Snapshot}
use Rattle.nv_machine.specs.PlainRun.{Copy, PlainChange, Maintains, Plain, done, is_of, with_pins as copy_with_pins}
use Rattle.nv_machine.specs.Reading.{pins_in}
use Rattle.nv_machine.specs.World.{Drop, Make, Pin, Running, Unpin}
use Rattle.nv_epoch.proofs.Pins.{pins_at-changed, pins_at-kept, pins_at-push, pins_at-removed, pins_at-unchanged}
use Rattle.nv_machine.proofs.SnapSteps.{snaps_after}

-- ---- a living snapshot and a copy

-- the same number and pins, and the copy's nodes are what the snapshot's number asks of them
pub record IsAlike (N : ℕ → (Handle → Option NodeCopy) → Type 0) (snapshot : Snapshot) (copy : Copy) : Type 0 where
  pub number : snapshot.number ≡ copy.snapshot
  pub pins : snapshot.pins ≡ copy.pins
  pub nodes : N snapshot.number copy.nodes

abbrev pub AreAlike : (ℕ → (Handle → Option NodeCopy) → Type 0) → List Snapshot → List Copy → Type 0
AreAlike N [] [] = Unit {0}
AreAlike N [] (copy ∷ copies) = ⊥
AreAlike N (snapshot ∷ living) [] = ⊥
AreAlike N (snapshot ∷ living) (copy ∷ copies) = IsAlike N snapshot copy × AreAlike N living copies

module _ (N : ℕ → (Handle → Option NodeCopy) → Type 0) where
  pushed : (living : List Snapshot) (copies : List Copy) (x : Snapshot) (c : Copy) → AreAlike N living copies → IsAlike N x c
      → AreAlike N (living ++ x ∷ []) (copies ++ c ∷ [])
  pushed [] [] x c are is = (is, tt)
  pushed [] (copy ∷ copies) x c are is = absurd are
  pushed (snapshot ∷ living) [] x c are is = absurd are
  pushed (snapshot ∷ living) (copy ∷ copies) x c are is = (are.0, pushed living copies x c are.1 is)

  removed : (living : List Snapshot) (copies : List Copy) (n : ℕ) → AreAlike N living copies
      → AreAlike N (living_without living n) (filter (λ copy. not (is_of n copy)) copies)
  removed [] [] n are = tt
  removed [] (copy ∷ copies) n are = absurd are
  removed (snapshot ∷ living) [] n are = absurd are
  removed (snapshot ∷ living) (copy ∷ copies) n are =
      go (snapshot.number == n) (copy.snapshot == n) (ap (λ (m : ℕ). m == n) are.0.number) (removed living copies n are.1)
    where
      go : (b c : Bool) → b ≡ c → AreAlike N (living_without living n) (filter (λ copy. not (is_of n copy)) copies)
          → AreAlike N (cond (not b) (snapshot ∷ living_without living n) (living_without living n))
          (cond (not c) (copy ∷ filter (λ copy. not (is_of n copy)) copies) (filter (λ copy. not (is_of n copy)) copies))
      go true true e rest = rest
      go false false e rest = (are.0, rest)
      go true false e rest = cc
      go false true e rest = cc

  changed_one : (n : ℕ) (change : ℕ → ℕ) (x : Snapshot) (c : Copy) → IsAlike N x c
      → IsAlike N (repinned n change x) (copy_with_pins n change c)
  changed_one n change x c is = go (x.number == n) (c.snapshot == n) (ap (λ (m : ℕ). m == n) is.number) where
    go : (b d : Bool) → b ≡ d
        → IsAlike N (if b then record x { pins = change x.pins } else x) (if d then record c { pins = change c.pins } else c)
    go true true e = record { number = is.number; pins = ap change is.pins; nodes = is.nodes }
    go false false e = is
    go true false e = cc
    go false true e = cc

  changed : (living : List Snapshot) (copies : List Copy) (n : ℕ) (change : ℕ → ℕ) → AreAlike N living copies
      → AreAlike N (with_pins living n change) (map (copy_with_pins n change) copies)
  changed [] [] n change are = tt
  changed [] (copy ∷ copies) n change are = absurd are
  changed (snapshot ∷ living) [] n change are = absurd are
  changed (snapshot ∷ living) (copy ∷ copies) n change are =
      (changed_one n change snapshot copy are.0, changed living copies n change are.1)

  -- ---- what a deed makes of them

  pub deed_alike : (d : PlainChange) (running : Option Running) (l : Living) (p : Plain) → l.epoch ≡ p.epoch
      → (d ≡ Maintains Make → N l.epoch (node_in p.nodes)) → AreAlike N l.living p.copies
      → AreAlike N (snaps_after d l).living (done d running p).copies
  deed_alike (Maintains Make) running l p epoch new are =
      pushed l.living p.copies _ _ are (record { number = epoch; pins = refl; nodes = new refl })
  deed_alike (Maintains (Drop snapshot)) running l p epoch new are = removed l.living p.copies snapshot are
  deed_alike (Maintains (Pin snapshot)) running l p epoch new are = changed l.living p.copies snapshot (λ pins. pins + 1) are
  deed_alike (Maintains (Unpin snapshot seen)) running l p epoch new are = changed l.living p.copies snapshot (λ pins. pins - 1) are
  deed_alike other running l p epoch new are = are

  -- ---- pins, and how many there are

  pub same_pins : (living : List Snapshot) (copies : List Copy) (n : ℕ) → AreAlike N living copies → pins_at living n ≡ pins_in copies n
  same_pins [] [] n are = refl
  same_pins [] (copy ∷ copies) n are = absurd are
  same_pins (snapshot ∷ living) [] n are = absurd are
  same_pins (snapshot ∷ living) (copy ∷ copies) n are =
      go (snapshot.number == n) (copy.snapshot == n) (ap (λ (m : ℕ). m == n) are.0.number) (same_pins living copies n are.1)
    where
      go : (b c : Bool) → b ≡ c → pins_at living n ≡ pins_in copies n
          → (if b then Some snapshot.pins else pins_at living n) ≡ (if c then Some copy.pins else pins_in copies n)
      go true true e rest = ap Some are.0.pins
      go false false e rest = rest
      go true false e rest = cc
      go false true e rest = cc

  pub as_many : (living : List Snapshot) (copies : List Copy) → AreAlike N living copies → length living ≡ length copies
  as_many [] [] are = refl
  as_many [] (copy ∷ copies) are = absurd are
  as_many (snapshot ∷ living) [] are = absurd are
  as_many (snapshot ∷ living) (copy ∷ copies) are = ap suc (as_many living copies are.1)

-- ---- the epoch

pub deed_epoch : (d : PlainChange) (running : Option Running) (l : Living) (p : Plain) → l.epoch ≡ p.epoch
    → (snaps_after d l).epoch ≡ (done d running p).epoch
deed_epoch (Maintains Make) running l p e = ap (λ n. n + 1) e
deed_epoch other running l p e = e

pub deed_most : (d : PlainChange) (l : Living) → (snaps_after d l).most ≡ l.most
deed_most (Maintains Make) l = refl
deed_most other l = refl

-- ---- each living snapshot is of an earlier epoch

abbrev pub Lives : Living → ℕ → Type 0
Lives l n = IsSome (pins_of l n)

abbrev pub AreBefore : Living → Type 0
AreBefore l = (n : ℕ) → Lives l n → n < l.epoch

pub lived : (l : Living) (n other : ℕ) (change : ℕ → ℕ) → IsSome (pins_at (with_pins l.living other change) n) → Lives l n
lived l n other change is = go (other == n) refl where
  had : (pins : Option ℕ) → IsSome (option_map change pins) → IsSome pins
  had None some = cc
  had (Some pins) some = refl

  go : (b : Bool) → (other == n) ≡ b → Lives l n
  go true e =
      let same = eqb-true other n e in
      subst (Lives l) same
      (had (pins_of l other) (subst IsSome (pins_at-changed l.living other change)
      (subst (λ (m : ℕ). IsSome (pins_at (with_pins l.living other change) m)) (sym same) is)))
  go false e = subst IsSome (pins_at-unchanged l.living other change n (λ same. eqb-false other n e (sym same))) is

pub lived_then : (l : Living) (n other : ℕ) → IsSome (pins_at (living_without l.living other) n) → Lives l n
lived_then l n other is = go (other == n) refl where
  go : (b : Bool) → (other == n) ≡ b → Lives l n
  go true e =
      let none = subst IsSome (pins_at-removed l.living other)
      (subst (λ (m : ℕ). IsSome (pins_at (living_without l.living other) m)) (sym (eqb-true other n e)) is) in cc
  go false e = subst IsSome (pins_at-kept l.living other n (λ same. eqb-false other n e (sym same))) is

made_before : (l : Living) (n : ℕ) → AreBefore l → IsSome (pins_at (l.living ++ (record { number = l.epoch; pins = 0 }) ∷ []) n)
    → n < l.epoch + 1
made_before l n are is =
    go (pins_of l n) refl (l.epoch == n) refl (subst IsSome (pins_at-push l.living (record { number = l.epoch; pins = 0 }) n) is)
  where
    go : (pins : Option ℕ) → pins_of l n ≡ pins → (b : Bool) → (l.epoch == n) ≡ b → IsSome (option_or pins (cond b (Some 0) None))
        → n < l.epoch + 1
    go (Some pins) had b e some = omega (arith, are n (subst IsSome (sym had) refl))
    go None had true e some = omega (arith, eqb-true l.epoch n e)
    go None had false e some = cc

pub deed_before : (d : PlainChange) (l : Living) → AreBefore l → AreBefore (snaps_after d l)
deed_before (Maintains Make) l are = λ n is. made_before l n are is
deed_before (Maintains (Drop snapshot)) l are = λ n is. are n (lived_then l n snapshot is)
deed_before (Maintains (Pin snapshot)) l are = λ n is. are n (lived l n snapshot (λ pins. pins + 1) is)
deed_before (Maintains (Unpin snapshot seen)) l are = λ n is. are n (lived l n snapshot (λ pins. pins - 1) is)
deed_before other l are = are
