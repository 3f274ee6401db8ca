-- What an actor holds, along the last steps and the loops of its call.
use Rattle.std.proofs.Common.{Bool, List, None, Option, Some, [], ap, drop, false, get_or-set_other, get_or-set_same, length, length-set, nat_lt, refl, subst, sym, take, true, ℕ, ◌+◌, ◌<◌, ◌==◌, ◌∙◌, ◌≡◌, ◌≢◌}
use Rattle.std.specs.Prelude.{◌||◌}
use Rattle.std.proofs.lemmas.Bool.{eqb-false, eqb-true, ltb-false, ltb-true}
use Rattle.nv_alloc.specs.Numbers.{has}
use Rattle.nv_machine.specs.Locks.{AreSlots, HoldsIts, IsInside, commits_at, held_at, is_owner}
use Rattle.nv_machine.specs.Reads.{slot_at, written_slots}
use Rattle.nv_machine.specs.Sequence.{appending, closing, directories, locking, looking, opening, publishing, retiring}
use Rattle.nv_machine.specs.World.{Append, Check, Close, Ending, HandState, Leave, Lock, Look, Next, Open, Publish, Retire, Running, Shared, Turn, go_to, owner_at, with_owner}
use Rattle.nv_machine.proofs.Lists.{drop_apart, has_drop, has_take, self, slot_inside, take_all}
use Rattle.nv_machine.proofs.LoopSteps.{by_test, either}
use Rattle.nv_machine.proofs.StepWays.{AfterBy, EndsBy, Going, Lasts, Overs, Rests, Telling}

-- ---- what a turn leaves of the locks

-- the locks of all others
pub record LocksLeft (a : ℕ) (s t : Shared) : Type 0 where
  pub owners : (b : ℕ) → b ≢ a → (ino : ℕ) → is_owner b (owner_at t ino) ≡ is_owner b (owner_at s ino)
  pub holder : (b : ℕ) → b ≢ a → is_owner b t.holder ≡ is_owner b s.holder
  pub wide : length t.owners ≡ length s.owners

-- the others' locks stay, its own are those of its call, and it waits for this
abbrev pub LocksGo : ℕ → Shared → Going
LocksGo a s t h q = LocksLeft a s t × HoldsIts t a (Some q)

abbrev pub LocksTold : ℕ → Shared → Telling
LocksTold a s x t h = LocksLeft a s t × HoldsIts t a None

abbrev pub OnLocks : ℕ → Shared → Type 0 → Turn → Type 0
OnLocks a s waits t = AfterBy waits (LocksGo a s) (LocksTold a s) t

-- what an actor holds: these slots, and the commit lock or not
pub record Holds (s : Shared) (a : ℕ) (slots : List ℕ) (commits : Bool) : Type 0 where
  pub owners : (ino : ℕ) → is_owner a (owner_at s ino) ≡ has slots ino
  pub holder : is_owner a s.holder ≡ commits

pub same_locks : (a : ℕ) (s : Shared) → LocksLeft a s s
same_locks a s = record { owners = λ b h ino. refl; holder = λ b h. refl; wide = refl }

-- a call whose next step holds these
pub holds_as : (s : Shared) (a : ℕ) (q : Running) (slots : List ℕ) (commits : Bool) → Holds s a slots commits
    → held_at q.next q.slots ≡ slots → commits_at q.next ≡ commits
    → AreSlots (length s.owners) q.slots → IsInside q.next q → HoldsIts s a (Some q)
holds_as s a q slots commits h e f are inside = record {
  owners = λ ino. h.owners ino ∙ ap (λ (l : List ℕ). has l ino) (sym e);
  holder = h.holder ∙ sym f;
  slots = (are, inside);
}

pub idle_as : (s : Shared) (a : ℕ) → Holds s a [] false → HoldsIts s a None
idle_as s a h = record { owners = h.owners; holder = h.holder; slots = tt }

-- ---- the last steps

module _ {a : ℕ} {s t : Shared} (left : LocksLeft a s t) where
  pub lasts_locks : {h : HandState} {r : Running} {e : Ending} → Holds t a [] false → Lasts (LocksGo a s) (LocksTold a s) t h r e
  lasts_locks mine = record {
    told = λ full. (left, idle_as t a mine);
    picks = λ d more drains some. (left, holds_as t a _ [] false mine refl refl (record { rising = tt; inside = tt }) refl);
  }

  pub rests_locks : {home : Option ℕ} {h : HandState} {r : Running} {e : Ending} → Holds t a [] false → AreSlots (length t.owners) r.slots
      → Rests (LocksGo a s) (LocksTold a s) home t h r e
  rests_locks mine are = record {
    give = λ cpu is. (left, holds_as t a _ [] false mine refl refl are tt);
    back = λ ino none is. (left, holds_as t a _ [] false mine refl refl are tt);
    lasts = λ none is. lasts_locks mine;
  }

  pub overs_locks : {h : HandState} {r : Running} {e : Ending} → Holds t a [] false → AreSlots (length t.owners) r.slots
      → Overs (LocksGo a s) (LocksTold a s) t h r e
  overs_locks mine are = record {
    again = λ n is some. (left, holds_as t a _ [] false mine refl refl are tt);
    contended = λ is none. (left, idle_as t a mine);
    rests = λ is. rests_locks mine are;
  }

  pub ends_locks : {h : HandState} {r : Running} {e : Ending} → Holds t a r.slots false → AreSlots (length t.owners) r.slots
      → EndsBy (LocksGo a s) (LocksTold a s) r.slots t h r e
  ends_locks mine are = record {
    unlock = λ some. (left, holds_as t a _ _ false mine refl refl are some);
    overs = λ none. overs_locks (subst (λ (l : List ℕ). Holds t a l false) none mine) are;
  }

-- ---- loops

pub locking_holds : (s : Shared) (a place : ℕ) (r : Running) → Holds s a (take place r.slots) false
    → AreSlots (length s.owners) r.slots → HoldsIts s a (Some (go_to (locking place r.slots) r))
locking_holds s a place r mine are =
    by_test (λ (k : Next). HoldsIts s a (Some (go_to k r))) (nat_lt place (length r.slots)) (Lock place) Check
    (λ e. holds_as s a _ (take place r.slots) false mine refl refl are (ltb-true place (length r.slots) e))
    (λ e. holds_as s a _ (take place r.slots) false mine (sym (take_all place r.slots (ltb-false place (length r.slots) e))) refl are tt)

pub looking_holds : (s : Shared) (a place : ℕ) (r : Running) → Holds s a [] false → AreSlots (length s.owners) r.slots
    → HoldsIts s a (Some (go_to (looking place r) r))
looking_holds s a place r mine are =
    either (λ (k : Next). HoldsIts s a (Some (go_to k r))) (nat_lt place (length (directories r.call))) (Look place) (locking 0 r.slots)
    (holds_as s a _ [] false mine refl refl are tt) (locking_holds s a 0 r mine are)

module _ (s : Shared) (a : ℕ) (r : Running) (mine : Holds s a r.slots true) (are : AreSlots (length s.owners) r.slots) where
  abbrev At : Next → Type 0
  At k = HoldsIts s a (Some (go_to k r))

  abbrev written : List ℕ
  written = written_slots r

  pub retiring_holds : (place : ℕ) → At (retiring place written)
  retiring_holds place =
      by_test At (nat_lt place (length written)) (Retire place) Leave
      (λ e. holds_as s a _ r.slots true mine refl refl are (ltb-true place (length written) e))
      (λ e. holds_as s a _ r.slots true mine refl refl are tt)

  pub publishing_holds : (place : ℕ) → At (publishing place written)
  publishing_holds place =
      by_test At (nat_lt place (length written)) (Publish place) (closing written)
      (λ e. holds_as s a _ r.slots true mine refl refl are (ltb-true place (length written) e))
      (λ e. either At (nat_lt 1 (length written)) Close (retiring 0 written) (holds_as s a _ r.slots true mine refl refl are tt)
      (retiring_holds 0))

  pub appending_holds : (place : ℕ) → At (appending place written)
  appending_holds place =
      by_test At (nat_lt place (length written)) (Append place) (opening written)
      (λ e. holds_as s a _ r.slots true mine refl refl are (ltb-true place (length written) e))
      (λ e. either At (nat_lt 1 (length written)) Open (publishing 0 written) (holds_as s a _ r.slots true mine refl refl are tt)
      (publishing_holds 0))

-- ---- one lock

pub apart : (n m : ℕ) (b : Bool) → (n == m) ≡ b → n ≢ m → b ≡ false
apart n m true e h = absurd (h (eqb-true n m e))
apart n m false e h = refl

-- who is another has not what this one has
pub others_not : (a b : ℕ) (owner : Option ℕ) → b ≢ a → is_owner a owner ≡ true → is_owner b owner ≡ false
others_not a b None h e = refl
others_not a b (Some o) h e = apart o b (o == b) refl (λ is. h (sym is ∙ eqb-true o a e))

or_true : (b : Bool) → (b || true) ≡ true
or_true true = refl
or_true false = refl

or_not : (b : Bool) → (b || false) ≡ b
or_not true = refl
or_not false = refl

-- the owner of a slot where one slot has another owner
owner_set : (s : Shared) (slot : ℕ) (owner : Option ℕ) (ino : ℕ) (P : Option ℕ → Type 0) (b : Bool) → (slot == ino) ≡ b
    → slot < length s.owners
    → (slot ≡ ino → P owner) → (slot ≢ ino → P (owner_at s ino)) → P (owner_at (with_owner slot owner s) ino)
owner_set s slot owner ino P true e h here there =
    subst (λ (n : ℕ). P (owner_at (with_owner slot owner s) n)) (eqb-true slot ino e)
    (subst P (sym (get_or-set_same s.owners slot owner None h)) (here (eqb-true slot ino e)))
owner_set s slot owner ino P false e h here there =
    subst P (sym (get_or-set_other s.owners slot ino owner None (λ is. eqb-false slot ino e (sym is)))) (there (eqb-false slot ino e))

pub locked_left : (a : ℕ) (s : Shared) (slot : ℕ) → slot < length s.owners → owner_at s slot ≡ None
    → LocksLeft a s (with_owner slot (Some a) s)
locked_left a s slot h free = record {
  owners = λ b ne ino. owner_set s slot (Some a) ino (λ (o : Option ℕ). is_owner b o ≡ is_owner b (owner_at s ino)) (slot == ino) refl h
      (λ is. apart a b (a == b) refl (λ e. ne (sym e)) ∙ sym (ap (is_owner b) (subst (λ (n : ℕ). owner_at s n ≡ None) is free)))
      (λ ne. refl);
  holder = λ b ne. refl;
  wide = length-set s.owners slot (Some a);
}

pub unlocked_left : (a : ℕ) (s : Shared) (slot : ℕ) → slot < length s.owners → is_owner a (owner_at s slot) ≡ true
    → LocksLeft a s (with_owner slot None s)
unlocked_left a s slot h own = record {
  owners = λ b ne ino. owner_set s slot None ino (λ (o : Option ℕ). is_owner b o ≡ is_owner b (owner_at s ino)) (slot == ino) refl h
      (λ is. sym (subst (λ (n : ℕ). is_owner b (owner_at s n) ≡ false) is (others_not a b (owner_at s slot) ne own))) (λ ne. refl);
  holder = λ b ne. refl;
  wide = length-set s.owners slot None;
}

pub locked_holds : (a : ℕ) (s : Shared) (place : ℕ) (slots : List ℕ) → place < length slots → slot_at slots place < length s.owners
    → Holds s a (take place slots) false
    → Holds (with_owner (slot_at slots place) (Some a) s) a (take (place + 1) slots) false
locked_holds a s place slots inside h mine = record {
  owners = λ ino. owner_set s (slot_at slots place) (Some a) ino
      (λ (o : Option ℕ). is_owner a o ≡ has (take (place + 1) slots) ino) (slot_at slots place == ino) refl h
      (λ is. self a ∙ sym (has_take place slots ino inside
      ∙ ap (λ (b : Bool). (has (take place slots) ino || b))
      (subst (λ (n : ℕ). (slot_at slots place == n) ≡ true) is (self (slot_at slots place)))
      ∙ or_true (has (take place slots) ino)))
      (λ ne. mine.owners ino ∙ sym (has_take place slots ino inside
      ∙ ap (λ (b : Bool). (has (take place slots) ino || b)) (apart (slot_at slots place) ino (slot_at slots place == ino) refl ne)
      ∙ or_not (has (take place slots) ino)));
  holder = mine.holder;
}

pub unlocked_holds : (a : ℕ) (s : Shared) (place : ℕ) (slots : List ℕ) → place < length slots → AreSlots (length s.owners) slots
    → Holds s a (drop place slots) false
    → Holds (with_owner (slot_at slots place) None s) a (drop (place + 1) slots) false
unlocked_holds a s place slots inside are mine = record {
  owners = λ ino. owner_set s (slot_at slots place) None ino (λ (o : Option ℕ). is_owner a o ≡ has (drop (place + 1) slots) ino)
      (slot_at slots place == ino) refl
      (slot_inside (length s.owners) slots place are inside)
      (λ is. sym (subst (λ (n : ℕ). has (drop (place + 1) slots) n ≡ false) is (drop_apart place slots are.rising inside)))
      (λ ne. mine.owners ino ∙ has_drop place slots ino inside
      ∙ ap (λ (b : Bool). (b || has (drop (place + 1) slots) ino))
      (apart (slot_at slots place) ino (slot_at slots place == ino) refl ne));
  holder = mine.holder;
}
