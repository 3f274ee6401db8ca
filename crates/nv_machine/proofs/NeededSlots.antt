-- A call locks exactly the slots that it needs.
use Rattle.std.proofs.Common.{◌≡◌, ℕ, ◌==◌, ◌∙◌, ◌&&◌, Bool, true, false, List, [], ◌∷◌, Option, Some, ap, if◌then◌else◌, length, nat_lt, refl, subst, sym}
use Rattle.std.specs.Prelude.{◌||◌}
use Rattle.std.proofs.lemmas.Bool.{eqb-true}
use Rattle.nv_alloc.specs.Numbers.{has}
use Rattle.nv_base.specs.declared.geometry.GeometryNumbers.{GeometryNumbers}
use Rattle.nv_book.specs.declared.record.Record.{Record}
use Rattle.nv_machine.specs.NeededSlots.{is_locking, needed_inos}
use Rattle.nv_machine.specs.Reads.{slots_in, slots_of, with_slot}
use Rattle.nv_machine.specs.Starts.{IsStart}
use Rattle.nv_machine.specs.Step.{after}
use Rattle.nv_machine.specs.World.{Check, Event, HandState, Lock, Next, Running, World, actor_at}
use Rattle.nv_machine.proofs.EveryWorld.{all_pooled}
use Rattle.nv_machine.proofs.PoolKnown.{Sees, SeesOf}
use Rattle.nv_machine.proofs.PoolSlots.{has_with}

no_list : (b : Bool) → false ≡ (b && false)
no_list true = refl
no_list false = refl

-- a slot of these is one of the list, and in range
slots_are : (many : ℕ) (list : List ℕ) (n : ℕ) → has (slots_in many list) n ≡ (nat_lt n many && has list n)
slots_are many [] n = no_list (nat_lt n many)
slots_are many (ino ∷ rest) n = go (nat_lt ino many) (ino == n) refl refl (slots_are many rest n) where
  low_as : (low : Bool) → nat_lt ino many ≡ low → (ino == n) ≡ true → (b : Bool) → (nat_lt n many && b) ≡ (low && b)
  low_as low is same b =
      ap (λ (c : Bool). c && b) (subst (λ (k : ℕ). nat_lt k many ≡ low) (eqb-true ino n same) is)

  go : (low same : Bool) → nat_lt ino many ≡ low → (ino == n) ≡ same
      → has (slots_in many rest) n ≡ (nat_lt n many && has rest n)
      → has (if low then with_slot ino (slots_in many rest) else slots_in many rest) n ≡ (nat_lt n many && (same || has rest n))
  go true true low same more =
      has_with ino (slots_in many rest) n ∙ ap (λ (b : Bool). b || has (slots_in many rest) n) same ∙ sym (low_as true low same true)
  go true false low same more =
      has_with ino (slots_in many rest) n ∙ ap (λ (b : Bool). b || has (slots_in many rest) n) same ∙ more
  go false true low same more = more ∙ low_as false low same (has rest n) ∙ sym (low_as false low same true)
  go false false low same more = more

module _ (g : GeometryNumbers) (start : World) (records : List Record) (events : List Event) (actor : ℕ) (r : Running)
    (is_start : IsStart g start records) (is : (actor_at (after start events) actor).running ≡ Some r) where
  abbrev w : World
  w = after start events

  abbrev h : HandState
  h = (actor_at w actor).hand

  slots_now : (k : Next) → is_locking k ≡ true → Sees k w.shared h r → r.slots ≡ slots_of w.shared h.ino r.looked r.call
  slots_now (Lock place) e sees = sees
  slots_now Check e sees = sees
  slots_now other e sees = cc

  pub needed_exactly : (ino : ℕ) → is_locking r.next ≡ true → has r.slots ino ≡ (nat_lt ino g.inodes && has (needed_inos h r) ino)
  needed_exactly ino e =
      let pooled = all_pooled g start records events is_start in
      ap (λ (l : List ℕ). has l ino)
      (slots_now r.next e (subst (λ (o : Option Running). SeesOf o w.shared h) is (pooled.each actor)))
      ∙ slots_are (length w.shared.cells) (needed_inos h r) ino
      ∙ ap (λ (n : ℕ). nat_lt ino n && has (needed_inos h r) ino) pooled.slots
