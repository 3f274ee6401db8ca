-- An actor that runs alone never waits: idle actors have no lock.
use Rattle.std.proofs.Common.{Bool, None, Option, Some, ap, false, length, nat_lt, refl, sym, true, ℕ, ◌∙◌, ◌≡◌, ◌≢◌}
use Rattle.std.proofs.lemmas.Bool.{false≢true, ltb-true}
use Rattle.nv_alloc.specs.Numbers.{has}
use Rattle.nv_machine.specs.Locks.{AreLocks, IsHeldByOther, WaitsFor, WaitsOn, commits_by, held_by, is_owner}
use Rattle.nv_machine.specs.Step.{go_step, step}
use Rattle.nv_machine.specs.World.{Drop, Enter, Go, Lock, LockPicked, Look, Make, Next, Pick, Pin, Running, Show, SnapshotOrCleanerStep, SnapshotOrCleaner, Unpin, Visit, Waiting, World, actor_at, owner_at, LockCleaned}
use Rattle.nv_machine.proofs.Lists.{self}
use Rattle.nv_machine.proofs.LocksOverEvents.{waits}

module _ (w : World) (actor : ℕ) (locks : AreLocks w) (idle : (other : ℕ) → other ≢ actor → (actor_at w other).running ≡ None) where
  not_other : (owner : Option ℕ) → ((other : ℕ) → other ≢ actor → is_owner other owner ≡ false) → IsHeldByOther actor owner → ⊥
  not_other owner free held =
      false≢true (sym (free held.0 held.2) ∙ ap (is_owner held.0) held.1 ∙ self held.0)

  no_slot : (ino : ℕ) → IsHeldByOther actor (owner_at w.shared ino) → ⊥
  no_slot ino =
      not_other (owner_at w.shared ino)
      (λ other apart. (locks.each other).owners ino ∙ ap (λ (o : Option Running). has (held_by o) ino) (idle other apart))

  no_commit : IsHeldByOther actor w.shared.holder → ⊥
  no_commit = not_other w.shared.holder (λ other apart. (locks.each other).holder ∙ ap commits_by (idle other apart))

  none_on : (kind : SnapshotOrCleanerStep) → WaitsOn w.shared actor kind → ⊥
  none_on (Show snapshot showing) held = no_slot _ held
  none_on (LockPicked draining picked) held = no_slot _ held
  none_on (LockCleaned manner ino) held = no_slot _ held
  none_on Make held = no_commit held
  none_on (Drop snapshot) held = no_commit held
  none_on (Pin snapshot) held = no_commit held
  none_on (Unpin snapshot seen) held = no_commit held
  none_on (Pick draining) held = no_commit held
  none_on other held = held

  none_for : (r : Running) (k : Next) → WaitsFor w.shared actor r k → ⊥
  none_for r (Look place) held = no_slot _ held
  none_for r (Lock place) held = no_slot _ held
  none_for r Enter held = no_commit held
  none_for r Visit held = no_slot _ held
  none_for r (SnapshotOrCleaner kind) held = none_on kind held
  none_for r other held = held

  pub never_waits : (granted : Bool) → (step w (Go actor granted)).reply ≢ Waiting
  never_waits granted waiting = go (nat_lt actor (length w.actors)) (actor_at w actor).running refl refl waiting where
    go : (b : Bool) (running : Option Running) → nat_lt actor (length w.actors) ≡ b → (actor_at w actor).running ≡ running
        → (go_step b running actor granted w).reply ≡ Waiting → ⊥
    go false running there is e = cc
    go true None there is e = cc
    go true (Some r) there is e =
        none_for r r.next (waits w actor granted r locks (ltb-true actor (length w.actors) there) is waiting).1
