-- What is taken is the first of what is there.
use Rattle.std.proofs.Common.{Bool, List, None, [], ap, drop, false, length, refl, suc, sym, true, zero, ℕ, ◌++◌, ◌+◌, ◌-◌, ◌<◌, ◌∷◌, ◌≡◌}
use Rattle.std.specs.Prelude.{nat_lt, option_to_list}
use Rattle.std.proofs.Math.Nat.{mod-lt}
use Rattle.std.proofs.lemmas.Grind.{get_or-set_at}
use Rattle.nv_base.specs.declared.fault.Fault.TheVariants.{NoSpace}
use Rattle.nv_machine.specs.Cleaning.{fresh_turn, with_fresh}
use Rattle.nv_machine.specs.Exact.{HasFirst, HasGiven, Leaves, TakesData, TakesLogPages}
use Rattle.nv_machine.specs.Kinds.{asked_list, less_list, refuse}
use Rattle.nv_machine.specs.Step.{kind_turn}
use Rattle.nv_machine.specs.World.{Ends, Fresh, HandState, SnapshotOrCleaner, Moves, Number, Refuses, Running, Shared, TakeBlocks, TakeLogPages, Turn, Waits, list_at, no_list}
use Rattle.nv_machine.proofs.WorkKeeps.{AfterTurn, end_keeps, work_keeps}
use Rattle.nv_machine.proofs.StepWork.{number_work}

leaves : (P : Shared → HandState → Type 0) (t : Turn) → AfterTurn P t → Leaves P t
leaves P (Moves s h r) p = p
leaves P Waits p = tt
leaves P (Ends result s h) p = p

first_left : (numbers : List ℕ) (s : Shared) (h : HandState) → numbers ≡ s.pool.numbers → h.ino ≡ None
    → s.pool.numbers ≡ option_to_list (number_work numbers s h).hand.ino ++ (number_work numbers s h).shared.pool.numbers
first_left [] s h e none = ap (λ o. option_to_list o ++ s.pool.numbers) (sym none)
first_left (ino ∷ numbers) s h e none = sym e

pub number_taken : (block actor : ℕ) (granted : Bool) (s : Shared) (h : HandState) (r : Running) → h.ino ≡ None
    → Leaves (HasFirst s) (kind_turn Number block actor granted s h r)
number_taken block actor granted s h r none =
    leaves (HasFirst s) (kind_turn Number block actor granted s h r)
    (work_keeps (HasFirst s) Number block actor granted s h r refl refl (first_left s.pool.numbers s h refl none))

module _ (asked actor : ℕ) (s : Shared) (some : 0 < length s.lists) where
  abbrev pub cpu : ℕ
  cpu = asked_list (length s.lists) actor asked

  given : (wanted : ℕ) → HasGiven s cpu wanted (less_list cpu wanted s)
  given wanted =
      get_or-set_at s.lists cpu cpu (record (list_at s cpu) { blocks = drop wanted (list_at s cpu).blocks }) no_list refl
      (mod-lt (actor + asked) some)

module _ (asked block actor : ℕ) (granted : Bool) (s : Shared) (h : HandState) (r : Running) (some : 0 < length s.lists) where
  abbrev list : ℕ
  list = cpu asked actor s some

  pub data_taken : Leaves (TakesData s (asked_list (length s.lists) actor asked) h r.wanted)
      (kind_turn (TakeBlocks asked) block actor granted s h r)
  data_taken =
      leaves (TakesData s list h r.wanted) (kind_turn (TakeBlocks asked) block actor granted s h r)
      (work_keeps (TakesData s list h r.wanted) (TakeBlocks asked) block actor granted s h r refl refl
      (record { hand = refl; list = given asked actor s some r.wanted }))

  pub pages_taken : Leaves (TakesLogPages s (asked_list (length s.lists) actor asked) h r.wanted)
      (kind_turn (TakeLogPages asked) block actor granted s h r)
  pages_taken =
      leaves (TakesLogPages s list h r.wanted) (kind_turn (TakeLogPages asked) block actor granted s h r)
      (work_keeps (TakesLogPages s list h r.wanted) (TakeLogPages asked) block actor granted s h r refl refl
      (record { hand = refl; list = given asked actor s some r.wanted }))

-- a cleaner's taking goes on, or ends its call
fresh_leaves : (P : Shared → HandState → Type 0) (n : ℕ) (more : Bool) (ino asked : ℕ) (s : Shared) (h : HandState) (r : Running)
    → P s h → Leaves P (fresh_turn n more ino asked s h r)
fresh_leaves P zero more ino asked s h r p = p
fresh_leaves P (suc n) true ino asked s h r p = p
fresh_leaves P (suc n) false ino asked s h r p =
    leaves P (refuse NoSpace s h r) (end_keeps P r.slots (Refuses NoSpace) s h r p)

pub fresh_taken : (ino asked wanted block actor : ℕ) (granted : Bool) (s : Shared) (h : HandState) (r : Running)
    → 0 < length s.lists → Leaves (TakesLogPages s (asked_list (length s.lists) actor asked) h wanted)
    (kind_turn (SnapshotOrCleaner (Fresh ino asked wanted)) block actor granted s h r)
fresh_taken ino asked wanted block actor granted s h r some =
    let list = cpu asked actor s some in
    fresh_leaves (TakesLogPages s list h wanted) (wanted - length (list_at s list).blocks)
    (nat_lt (asked + 1) (length s.lists)) ino asked (less_list list wanted s) (with_fresh list wanted s h) r
    (record { hand = refl; list = given asked actor s some wanted })
