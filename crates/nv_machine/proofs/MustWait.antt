-- A step waits exactly where another actor holds the lock that it needs.
use Rattle.std.proofs.Common.{Bool, Some, ap, length, nat_lt, refl, ℕ, ◌<◌, ◌∙◌, ◌≡◌, ◌↔◌}
use Rattle.std.proofs.lemmas.Bool.{lt-ltb}
use Rattle.nv_machine.specs.Locks.{AreLocks, WaitsFor, WaitsOn}
use Rattle.nv_machine.specs.SnapshotOrCleaner.{snapshot_or_cleaner_turn}
use Rattle.nv_machine.specs.Step.{Step, kind_turn, step, turned}
use Rattle.nv_machine.specs.World.{Drop, Enter, Go, HandState, Lock, LockPicked, Look, Make, Next, Pick, Pin, Release, Running, Shared, Show, SnapshotOrCleanerStep, SnapshotOrCleaner, Turn, Unpin, Visit, Waiting, Waits, World, actor_at, Compact, Fresh, PlanCleaning, LockCleaned, Unlink}
use Rattle.nv_machine.proofs.LocksOverEvents.{waits}
use Rattle.nv_machine.proofs.SingleEvents.{go_is_turn}

module _ (block a : ℕ) (granted : Bool) (s : Shared) (h : HandState) (r : Running) where
  held_on : (step : SnapshotOrCleanerStep) → WaitsOn s a step → snapshot_or_cleaner_turn step a granted s h r ≡ Waits
  held_on Make held = rw held.1 refl
  held_on (Drop snapshot) held = rw held.1 refl
  held_on (Pin snapshot) held = rw held.1 refl
  held_on (Show snapshot showing) held = rw held.1 refl
  held_on (Unpin snapshot seen) held = rw held.1 refl
  held_on (Pick draining) held = rw held.1 refl
  held_on (LockPicked draining picked) held = rw held.1 refl
  held_on (Release draining picked) held = absurd held
  held_on (LockCleaned manner ino) held = rw held.1 refl
  held_on (PlanCleaning manner slot) held = absurd held
  held_on (Fresh ino asked wanted) held = absurd held
  held_on (Unlink ino) held = absurd held
  held_on (Compact ino) held = absurd held

  -- every kind
  must_wait : (k : Next) → WaitsFor s a r k → kind_turn k block a granted s h r ≡ Waits
  must_wait (Look place) held = rw held.1 refl
  must_wait (Lock place) held = rw held.1 refl
  must_wait Enter held = rw held.1 refl
  must_wait Visit held = rw held.1 refl
  must_wait (SnapshotOrCleaner step) held = held_on step held
  must_wait other held = absurd held

module _ (w : World) (actor : ℕ) (granted : Bool) (r : Running) (there : actor < length w.actors)
    (is : (actor_at w actor).running ≡ Some r) where
  waits_then : WaitsFor w.shared actor r r.next → (step w (Go actor granted)).reply ≡ Waiting
  waits_then held =
      ap (λ (x : Step). x.reply)
      (go_is_turn (nat_lt actor (length w.actors)) (actor_at w actor).running w actor granted r (lt-ltb actor (length w.actors) there) is)
      ∙ ap (λ (t : Turn). (turned t actor w).reply)
      (must_wait w.numbers.block actor granted w.shared (actor_at w actor).hand r r.next held)

  pub waits_exactly : AreLocks w → ((step w (Go actor granted)).reply ≡ Waiting) ↔ WaitsFor w.shared actor r r.next
  waits_exactly locks = (λ waiting. (waits w actor granted r locks there is waiting).1, waits_then)
