-- In a tree of directories no two names lead to one slot.
use Rattle.std.proofs.Common.{◌≡◌, ◌≢◌, inl, inr, ℕ, zero, suc, ◌<◌, ◌≤◌, ◌==◌, Bool, true, false, List, [], ◌∷◌, get_or, length, arith, refl, ap}
use Rattle.std.specs.Prelude.{None}
use Rattle.std.specs.List.{AllPairs, range_with_len}
use Rattle.std.proofs.lemmas.Bool.{cases_lt, eqb-false, eqb-true}
use Rattle.std.proofs.lemmas.List.{get_or_past}
use Rattle.nv_alloc.specs.Numbers.{times}
use Rattle.nv_alloc.proofs.Lists.{times-cons}
use Rattle.nv_entry.specs.declared.names.BoundName.{BoundName}
use Rattle.nv_audit.specs.Tree.{IsTree, Slots, leads, names_of, slot_at, slots_named}
use Rattle.nv_audit.proofs.Counting.{one_of, range_has, times_first, two_of}

-- a slot with a name is one
lead_inside : (slots : Slots) (dir n : ℕ) → 1 ≤ times n (leads slots dir) → dir < length slots
lead_inside slots dir n some =
    elim (cases_lt dir (length slots)) [
      | inl lt ↦ lt
      | inr from ↦
          absurd (let none = ap (λ node. times n (slots_named (names_of node))) (get_or_past slots dir None (omega (arith, from))) in
          omega (arith, some, none))
    ]

listed : (slots : Slots) (dir n : ℕ) → 1 ≤ times n (leads slots dir) → 1 ≤ times dir (range_with_len 0 (length slots))
listed slots dir n some =
    range_has 0 (length slots) dir (omega arith) (let lt = lead_inside slots dir n some in omega (arith, lt))

-- names that lead to one slot stand in one directory
pub one_directory : (slots : Slots) → IsTree slots → (dir other n : ℕ) → 1 ≤ times n (leads slots dir)
    → 1 ≤ times n (leads slots other) → dir ≡ other
one_directory slots tree dir other n some too = go (dir == other) refl where
  go : (b : Bool) → (dir == other) ≡ b → dir ≡ other
  go true e = eqb-true dir other e
  go false e =
      absurd (let both = two_of (leads slots) n dir other (range_with_len 0 (length slots)) (eqb-false dir other e)
      (listed slots dir n some) (listed slots other n too) in
      let one = tree.one n in omega (arith, both, one, some, too))

-- the names of one directory lead to slots of their own
named_at : (names : List BoundName) (j : ℕ) (d : BoundName) → j < length names
    → 1 ≤ times (get_or names j d).to.ino (slots_named names)
named_at [] j d below = absurd (omega (arith, below))
named_at (b ∷ names) zero d below = let first = times_first b.to.ino (slots_named names) in omega (arith, first)
named_at (b ∷ names) (suc j) d below =
    let n = (get_or names j d).to.ino in
    let rest = named_at names j d (omega (arith, below)) in
    omega (arith, rest, times-cons n b.to.ino (slots_named names))

apart_if_once : (names : List BoundName) → ((n : ℕ) → times n (slots_named names) ≤ 1) → (i j : ℕ) (d : BoundName)
    → i < j → j < length names → (get_or names i d).to.ino ≢ (get_or names j d).to.ino
apart_if_once [] once i j d lt below same = absurd (omega (arith, below))
apart_if_once (b ∷ names) once i zero d lt below same = absurd (omega (arith, lt))
apart_if_once (b ∷ names) once zero (suc j) d lt below same =
    let there = named_at names j d (omega (arith, below)) in
    let again = ap (λ (k : ℕ). times k (slots_named names)) same in
    let first = times_first b.to.ino (slots_named names) in
    let most = once b.to.ino in
    absurd (omega (arith, there, again, first, most))
apart_if_once (b ∷ names) once (suc i) (suc j) d lt below same =
    apart_if_once names (λ n. omega (arith, once n, times-cons n b.to.ino (slots_named names))) i j d (omega (arith, lt))
    (omega (arith, below)) same

pub names_apart : (slots : Slots) → IsTree slots → (dir : ℕ)
    → AllPairs (λ (a b : BoundName). a.to.ino ≢ b.to.ino) (names_of (slot_at slots dir))
names_apart slots tree dir =
    apart_if_once (names_of (slot_at slots dir)) (λ n. once n (times n (leads slots dir)) refl) where
      once : (n t : ℕ) → times n (leads slots dir) ≡ t → times n (leads slots dir) ≤ 1
      once n zero e = omega (arith, e)
      once n (suc t) e =
          let some : 1 ≤ times n (leads slots dir) = omega (arith, e) in
          let le = one_of (leads slots) n dir (range_with_len 0 (length slots)) (listed slots dir n some) in
          let one = tree.one n in omega (arith, le, one)
